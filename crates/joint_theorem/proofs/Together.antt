-- Demand 3, proved.
use Rattle.std.specs.Prelude.{ℕ, suc, ◌<◌, ◌≡◌, refl, true, not, ◌↔◌, length}
use Rattle.std.proofs.Common.{sym, ap, ◌∙◌, subst, arith}
use Rattle.std.proofs.Math.Logic.{⊎_elim}
use Rattle.std.proofs.Math.Option.{Option, some, none}
use mathlib.Core.List.{List, [], ◌∷◌, map, Memᴰ}
use Rattle.std.proofs.lemmas.Bool.{not-true}
use Rattle.base.specs.Tests.{both_ways, and_right}
use Rattle.descriptor.specs.Descriptor.{Bytes, FileDescriptor}
use Rattle.descriptor.specs.Decode.{decode_set}
use Rattle.options.specs.Settings.{Setting, settings}
use Rattle.name_rules.specs.Accessors.{text}
use Rattle.name_rules.specs.FullNames.{Entry}
use Rattle.name_check.specs.NameCheck.{package_modules}
use Rattle.code_generator.specs.Piece.{Ref, type, choice, Owned, pieces, snake, camel}
use Rattle.code_generator.specs.Generate.{generate}
use Rattle.calls.specs.TextCall.{file_at}
use Rattle.sights.specs.Sights.{Item, Label, Use, BoxUse, Sight, set_sights, items, uses, boxes}
use Rattle.sights.specs.Unmarked.{unmarked_item, unmarked_label, unmarked_use, unmarked_box, map_option}
use Rattle.text_reader.specs.Symbols.{chars, text_symbols, written_out}
use Rattle.text_reader.proofs.Symbols.{text_out}
use Rattle.option_values.specs.OptionValues.{option_values, all_chars}
use Rattle.text_sights.specs.Written.{label_of}
use Rattle.paths_reach.specs.Reach.{package_item, world, those, stands_at, is_that_declaration, outside, inside, Through}
use Rattle.paths_reach.proofs.PathsReach.{paths_reach}
use Rattle.paths_reach.specs.Dots.{scope_of}
use Rattle.paths_reach.specs.Nodes.{names_of}
use Rattle.paths_reach.specs.Targets.{entry_of}
use Rattle.paths_reach.specs.Entries.{set_nodes}
use Rattle.walks_end.specs.Walks.{group_free, Walk}
use Rattle.walks_end.specs.BoxedFields.{no_boxed_setting, written_fields, leads_back, oneof_name, label_mark, boxed_field}
use Rattle.walks_end.specs.Origins.{owner_mark}
use Rattle.walks_end.specs.Owners.{box_owners_seen}
use Rattle.walks_end.proofs.Unmarked.{Keeps, those_mem, mem_those, walks_end_unmarked}
use Rattle.walks_end.specs.LeadsBack.{leads_back_is}
use Rattle.walks_end.proofs.BoxesStand.{boxes_stand}
use Rattle.walks_end.specs.Labels.{Labelled, at_field, at_variant}
use Rattle.walks_end.proofs.Labels.{boxes_labelled}
use Rattle.walks_end.proofs.WrittenFields.{Written, written_is}
use Rattle.joint_theorem.specs.Claim.{Accepted, seen, described, SideBySide, TextRead, ReachesItsOwn, PathsReach, WalksEnd, WrittenField, LeadsBackField, BoxAt, in_struct, in_oneof, boxed_fields, BoxesStand, TextsAgree, Demand}
use Rattle.joint_theorem.specs.Answers.{NamesDiffer, yes_means, text_written}
use Rattle.joint_theorem.specs.OnlyOne.{set_entries_are, only_one_for}
use Rattle.joint_theorem.proofs.SeenTexts.{symbols_of_text, beside, those_unmarked, through_unmarked, marked_is, seen_is, items_are, uses_are, boxes_are}

-- ---- 1
text_read : (set options : Bytes) (buffers : ℕ → List ℕ) → Accepted set options buffers → (file : ℕ) → file < length (decode_set set) → TextRead set options file (buffers file)
text_read set options buffers a file l =
    let rs = settings options in
    let files = decode_set set in
    let f = file_at files file in
    record {
      bytes = text_written set options file (buffers file) (a.not_refused file l) ∙ sym (text_out rs files f);
      parts = symbols_of_text rs (pieces (generate rs files f)) (option_values rs files f);
      no_options = λ e. subst (λ (os : List Setting). text_symbols os files f ≡ chars (written_out (text_symbols os files f))) (sym e) (all_chars files f ∙ ap chars (sym (text_out [] files f)));
    }

-- ---- 2
module _ (set options : Bytes) (names_differ : NamesDiffer set options) where
  abbrev rs : List Setting
  rs = settings options

  abbrev files : List FileDescriptor
  files = decode_set set

  -- a declaration that a path reaches is no package's module
  no_package : (place : List Bytes) (n : Bytes) (i : Item) → Memᴰ i (world rs files) → is_that_declaration place n i ≡ true → Memᴰ i (items (set_sights rs files))
  unfolding world
  no_package place n i m h =
      ⊎_elim
      (λ k. let (p, j, e) = mathlib.Core.List.Memᴰ.of_map package_item (package_modules files) k in both_ways (ap (λ (z : Item). z.is_module) (sym e)) (not-true i.is_module (and_right (stands_at place n i) (not i.is_module) h)))
      (λ k. k)
      (mathlib.Core.List.Memᴰ.append_cases (map package_item (package_modules files)) m)

  reaches : (w : Use) → Memᴰ w (uses (set_sights rs files)) → ReachesItsOwn set options (unmarked_use w) w
  reaches w m =
      let r = paths_reach rs files names_differ.good names_differ.differ w m in
      let same_items = sym (items_are set options names_differ.good) in
      let found = those_mem (is_that_declaration (inside w) w.path.last) (world rs files) r.reached (rw r.only (mathlib.Core.List.Memᴰ.head refl)) in
      let there : Memᴰ r.reached (items (described set options)) =
      subst (λ (ss : List Sight). Memᴰ r.reached (items ss)) (marked_is set options) (no_package (inside w) w.path.last r.reached found.0 found.1) in
      record {
        same_path = refl;
        out = r.out;
        through = subst (λ (l : List Item). Through l (outside w) w.path.modules) same_items (through_unmarked (world rs files) r.through);
        reached = unmarked_item r.reached;
        only =
            subst (λ (l : List Item). those (is_that_declaration (inside w) w.path.last) l ≡ unmarked_item r.reached ∷ []) same_items
            (those_unmarked (is_that_declaration (inside w) w.path.last) (λ i. refl) (world rs files) ∙ ap (map unmarked_item) r.only);
        for = r.for;
        named = r.meant;
        declared = r.reached;
        there = there;
        right = r.right;
        is_reached = refl;
        alone = λ i m e. only_one_for files names_differ.good rs i r.reached m there r.for e r.right;
      }

  all_reach : PathsReach set options
  all_reach =
      subst (λ (us : List Use). SideBySide (ReachesItsOwn set options) us (uses (described set options))) (sym (uses_are set options names_differ.good ∙ ap (λ (ss : List Sight). map unmarked_use (uses ss)) (marked_is set options)))
      (beside (ReachesItsOwn set options) unmarked_use (uses (described set options)) (λ w m. reaches w (subst (λ (ss : List Sight). Memᴰ w (uses ss)) (sym (marked_is set options)) m)))

  -- ---- 3
  keeps : Keeps unmarked_item unmarked_use
  keeps =
      record {
        item_place = λ i. refl;
        item_name = λ i. refl;
        is_module = λ i. refl;
        place = λ u. refl;
        path = λ u. refl;
        wraps = λ u. refl;
        in_tag = λ u. refl;
        owner = λ u i e. from u.owner i e;
      }
    where
      from : (o : Option Item) (i : Item) → map_option unmarked_item o ≡ some i → (j : Item) × (o ≡ some j) × (unmarked_item j ≡ i)
      from none i e = absurd (let z : ◌≡◌ {A = ℕ} 0 1 = cc in omega arith)
      from (some j) i e = (j, refl, cc)

  no_walk_back : group_free files ≡ true → WalksEnd set options
  no_walk_back free d w =
      walks_end_unmarked rs files names_differ.good names_differ.differ free unmarked_item unmarked_use keeps d
      (subst (λ (us : List Use). Walk (map unmarked_item (world rs files)) us d d) (uses_are set options names_differ.good)
      (subst (λ (l : List Item). Walk l (uses (seen set options)) d d) (items_are set options names_differ.good) w))

  -- ---- 4
  written_field : (o : Owned) → Written rs (set_nodes files) o → WrittenField set options o
  written_field o w =
      record {
        message = w.at.message;
        in_set = subst (λ (l : List Entry). Memᴰ (record { full = o.message; message = w.at.message }) l) (sym (set_entries_are files)) (rw w.message (mathlib.Core.List.Memᴰ.map entry_of w.there));
        no_map_entry = w.no_entry;
        not_taken = rw w.message w.outside;
        field = w.field;
      }

  field_written : (o : Owned) → WrittenField set options o → Written rs (set_nodes files) o
  field_written o h =
      let (n, k, e) = mathlib.Core.List.Memᴰ.of_map entry_of (set_nodes files) (subst (λ (l : List Entry). Memᴰ (record { full = o.message; message = h.message }) l) (set_entries_are files) h.in_set) in
      let full : scope_of (names_of n) ≡ o.message = ap (λ (z : Entry). z.full) e in
      let message : n.message ≡ h.message = ap (λ (z : Entry). z.message) e in
      record {
        at = n;
        there = k;
        no_entry = rw message h.no_map_entry;
        outside = rw full h.not_taken;
        message = sym full;
        field = rw message h.field;
      }

  such : (o : Owned) → Memᴰ o (boxed_fields set options) ↔ LeadsBackField set options o
  such o =
      let is = written_is rs files names_differ.good o in
      let back = leads_back_is files o in (
        λ m.
            let found = those_mem (leads_back files) (written_fields rs files) o m in
            let b = back.0 found.1 in
            record { written = written_field o (is.0 found.0); of_message = b.0; singular = b.1; leads = b.2 },
        λ h. mem_those (leads_back files) (written_fields rs files) o (is.1 (field_written o h.written)) (back.1 (h.of_message, h.singular, h.leads)),
      )

  -- the declaration around a Box
  owner_there : (x : BoxUse) → Memᴰ x (boxes (set_sights rs files)) → (r : Ref) → owner_mark x.owner ≡ some r
      → (i : Item) × (x.owner ≡ some i) × (i.mark ≡ some r) × Memᴰ i (items (described set options))
  owner_there x m r e = go x.owner refl e
    where
      go : (o : Option Item) → x.owner ≡ o → owner_mark o ≡ some r → (i : Item) × (o ≡ some i) × (i.mark ≡ some r) × Memᴰ i (items (described set options))
      go none p q = absurd (let z : ◌≡◌ {A = ℕ} 0 1 = cc in omega arith)
      go (some i) p q = (i, refl, q, subst (λ (ss : List Sight). Memᴰ i (items ss)) (marked_is set options) (box_owners_seen rs files x m i p))

  shown : (x : BoxUse) (i : Item) (l : Label) → x.owner ≡ some i → x.field ≡ some l → unmarked_box x ≡ record { owner = some (unmarked_item i); field = some (unmarked_label l) }
  shown x i l p q = rw (p, q) refl

  same_owned : {p o : Owned} → some p ≡ some o → p ≡ o
  same_owned e = cc

  box_at : (x : BoxUse) → Memᴰ x (boxes (set_sights rs files)) → (o : Owned) → boxed_field x ≡ some o → Labelled files x → BoxAt set options (unmarked_box x) o
  box_at x m o e (at_field full f plain own at) =
      let (i, around, mark, there) = owner_there x m (type full) own in
      subst (λ (z : Owned). BoxAt set options (unmarked_box x) z) (same_owned (sym (ap label_mark at) ∙ e))
      (in_struct i plain there mark (shown x i (label_of full f (snake (text f.name))) around at))
  box_at x m o e (at_variant full message k f in_set is own at) =
      let (i, around, mark, there) = owner_there x m (choice full (oneof_name message k)) own in
      subst (λ (z : Owned). BoxAt set options (unmarked_box x) z) (same_owned (sym (ap label_mark at) ∙ e))
      (in_oneof i message k in_set is there mark (shown x i (label_of full f (camel (text f.name))) around at))

  boxes_at : (xs : List BoxUse) → ((x : BoxUse) → Memᴰ x xs → Memᴰ x (boxes (set_sights rs files))) → (os : List Owned) → map boxed_field xs ≡ map some os
      → SideBySide (BoxAt set options) (map unmarked_box xs) os
  boxes_at [] k [] e = tt
  boxes_at [] k (o ∷ os) e = absurd (let z : ◌≡◌ {A = ℕ} 0 (suc (length (map some os))) = ap length e in omega arith)
  boxes_at (x ∷ xs) k [] e = absurd (let z : ◌≡◌ {A = ℕ} (suc (length (map boxed_field xs))) 0 = ap length e in omega arith)
  boxes_at (x ∷ xs) k (o ∷ os) e =
      let m = k x (mathlib.Core.List.Memᴰ.head refl) in
      let first : boxed_field x ≡ some o = cc in
      let others : map boxed_field xs ≡ map some os = cc in
      (box_at x m o first (boxes_labelled rs files x m), boxes_at xs (λ y n. k y (mathlib.Core.List.Memᴰ.tail n)) os others)

  boxes_where : group_free files ≡ true → no_boxed_setting rs ≡ true → BoxesStand set options
  boxes_where free unset =
      record {
        such = such;
        each =
            subst (λ (xs : List BoxUse). SideBySide (BoxAt set options) xs (boxed_fields set options)) (sym (boxes_are set options names_differ.good))
            (boxes_at (boxes (set_sights rs files)) (λ x m. m) (boxed_fields set options) (boxes_stand rs files names_differ.good free unset));
      }

-- ---- the claim
-- the clauses on what is read and on paths, groups or not
pub texts_agree : (set options : Bytes) (buffers : ℕ → List ℕ) → Accepted set options buffers → TextsAgree set options buffers
texts_agree set options buffers a =
    let n = yes_means set options a.says_yes in
    record {
      read = record { each = text_read set options buffers a; as_marked = seen_is set options n.good; as_described = marked_is set options };
      paths = all_reach set options n;
    }

-- demand 3. "Group-free: no field of the set has type group."
pub texts_together : (set options : Bytes) (buffers : ℕ → List ℕ) → group_free (decode_set set) ≡ true → Accepted set options buffers → Demand set options buffers
texts_together set options buffers free a =
    let n = yes_means set options a.says_yes in
    record {
      agree = texts_agree set options buffers a;
      walks = no_walk_back set options n free;
      boxes = boxes_where set options n free;
    }
