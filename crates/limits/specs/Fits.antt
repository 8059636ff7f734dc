-- What one walk adds up, and what that says of the limits 3 to 10.
use Rattle.std.specs.Prelude.{ℕ, ◌+◌, ◌≤◌, ◌≡◌, false}
use Rattle.std.proofs.Common.{arith}
use Rattle.descriptor.specs.Descriptor.{Bytes}
use Rattle.limits.specs.declared.limit.Limit.{Limit}
use Rattle.limits.specs.declared.limit.Limit.TheVariants as limits
use Rattle.limits.specs.declared.sort.Sort.{Sort}
use Rattle.limits.specs.declared.totals.Totals.{Totals}
use Rattle.limits.specs.Sums.{bit}
use Rattle.limits.specs.Weights.{text_length, is_message, is_field, is_enum, counts, holds_none, around_below, tally}

abbrev pub no_totals : Totals
no_totals = record { messages = 0; fields = 0; enums = 0; longest = 0; name = 0; few_messages = omega arith; few_fields = omega arith; few_enums = omega arith; short = omega arith }

abbrev pub with_name : Totals → ℕ → Totals
with_name t name =
    record {
      messages = t.messages;
      fields = t.fields;
      enums = t.enums;
      longest = t.longest;
      name = name;
      few_messages = t.few_messages;
      few_fields = t.few_fields;
      few_enums = t.few_enums;
      short = t.short;
    }

-- messages, fields and enums count for a limit each, and nothing for the others
abbrev pub by_limit : ℕ → ℕ → ℕ → Limit → ℕ
by_limit messages fields enums limits.Messages = messages
by_limit messages fields enums limits.Fields = fields
by_limit messages fields enums limits.Enums = enums
by_limit messages fields enums _ = 0

abbrev pub counted : Totals → Limit → ℕ
counted t = by_limit t.messages t.fields t.enums

-- a declaration of a sort
abbrev pub one_of : Sort → Limit → ℕ
one_of sort = by_limit (bit (is_message sort)) (bit (is_field sort)) (bit (is_enum sort))

-- what a message of a sort holds: where the full name around it leaves room, its declarations count as the totals say
pub record Held (left : ℕ) (sort : Sort) (s : Bytes) (t : Totals) : Type 0 where
  pub tallies : (limit : Limit) (around : ℕ) → around + t.longest ≤ 255 → counted t limit ≡ tally limit left sort around s
  pub name : holds_none sort ≡ false → t.name ≡ text_length 1 s

-- a declaration alone: where the full name around it leaves room, it counts for the limits 3 to 5 only
pub record Adds (sort : Sort) (s : Bytes) (added : ℕ) : Type 0 where
  pub own : (limit : Limit) (around : ℕ) → around + added ≤ 255 → bit (counts limit sort around s) ≡ one_of sort limit
  pub below : (around : ℕ) → around_below sort around s ≤ around + added

pub record Joined (t : Totals) (sort : Sort) (added : ℕ) (inner r : Totals) : Type 0 where
  pub sums : (limit : Limit) → counted r limit ≡ counted t limit + (one_of sort limit + counted inner limit)
  pub kept : t.longest ≤ r.longest
  pub longer : added + inner.longest ≤ r.longest
