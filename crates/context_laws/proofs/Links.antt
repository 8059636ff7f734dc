-- Leading by full names is leading by numbers. Assumes nothing.
use Rattle.std.specs.Prelude.{◌≡◌, refl, Bool, true, false, ◌||◌, not, ℕ, zero, suc}
use Rattle.std.proofs.Common.{sym, ◌∙◌, ap, subst, ⊎_elim}
use mathlib.Core.List.Memᴰ
use mathlib.Core.List.{List, [], ◌∷◌, ◌++◌, map, Memᴰ}
use Rattle.base.specs.Bytes.{same, same_refl, same_sound}
use Rattle.base.specs.Choose.{choose, choose_case}
use Rattle.base.specs.Tests.{and_left, or_left, same_test}
use Rattle.descriptor.specs.Descriptor.{Bytes, FieldDescriptor}
use Rattle.name_rules.specs.Accessors.{is_repeated, is_message, is_group}
use Rattle.name_rules.specs.FullNames.{Entry}
use Rattle.context.specs.MessageGraph.{Link, is_link, field_links, links, leads}
use Rattle.message_graph.specs.Leads.{Leads, leadsb}
use Rattle.message_graph.specs.Leads.Leads.{here, step}
use Rattle.message_graph.specs.Walks.{walks, walks_sound, walks_complete}
use Rattle.message_graph.specs.Walks.Walk.{stay, go}
use Rattle.message_graph.specs.Decided.{leads_sound, leads_complete}
use Rattle.context_laws.specs.At.{At}
use Rattle.context_laws.specs.At.At.{first, next}
use Rattle.context_laws.specs.Tables.{Row, field_row, rows_from, rows_of, listed, number_of, type_name_of, tables_of, Sound}
use Rattle.context_laws.specs.Numbers.{listed_at, number_at, number_one}
use Rattle.context_laws.proofs.Rows.{row_within, row_listed, row_typed, row_owner, row_target, row_link, row_at}
use Rattle.context_laws.specs.Links.{Led}

-- ---- `leads` is the test of walks along links

leads_walks : (ls : List Link) (a c : Bytes) → leads ls a c ≡ walks (λ (l : Link). l.from) (λ (l : Link). l.to) same ls a c
unfolding leads walks
leads_walks [] a c = refl
leads_walks (l ∷ ls) a c = rw (leads_walks ls a c, leads_walks ls a l.from, leads_walks ls l.to c)

pub led_sound : (ls : List Link) (a c : Bytes) → leads ls a c ≡ true → Led ls a c
led_sound ls a c e = walks_sound (λ (l : Link). l.from) (λ (l : Link). l.to) same same_sound ls a c (sym (leads_walks ls a c) ∙ e)

pub led_complete : (ls : List Link) (a c : Bytes) → Led ls a c → leads ls a c ≡ true
led_complete ls a c p = leads_walks ls a c ∙ walks_complete (λ (l : Link). l.from) (λ (l : Link). l.to) same (λ x y e. subst (λ (z : Bytes). same x z ≡ true) e (same_refl x)) ls a c p

-- ---- the links, by rows

abbrev pub link_of : Row → Link
link_of r = record { from = r.full; to = type_name_of r }

unfoldable row_links : List Row → List Link
row_links [] = []
row_links (r ∷ rs) = choose (is_link r.field) (link_of r ∷ row_links rs) (row_links rs)

chosen : {A : Type 0} (t : Bool) (x : A) (xs ys zs : List A) → zs ≡ xs ++ ys → choose t (x ∷ zs) zs ≡ choose t (x ∷ xs) xs ++ ys
unfolding choose
chosen {A} true x xs ys zs e = ap (λ (l : List A). x ∷ l) e
chosen false x xs ys zs e = e

links_row : (e : Entry) (i : ℕ) (fs : List FieldDescriptor) (rs : List Row) → row_links (map (field_row i e) fs ++ rs) ≡ field_links e.full fs ++ row_links rs
unfolding row_links field_links
links_row e i [] rs = refl
links_row e i (f ∷ fs) rs =
    chosen (is_link f) (link_of (field_row i e f)) (field_links e.full fs) (row_links rs) (row_links (map (field_row i e) fs ++ rs)) (links_row e i fs rs)

links_rows : (i : ℕ) (es : List Entry) → links es ≡ row_links (rows_from i es)
unfolding links row_links rows_from
links_rows i [] = refl
links_rows i (e ∷ es) = rw (links_rows (suc i) es) (sym (links_row e i e.message.fields (rows_from (suc i) es)))

pub record Linked (rs : List Row) (l : Link) : Type 0 where
  pub found : Row
  pub place : ℕ
  pub at : At found rs place
  pub is : is_link found.field ≡ true
  pub same : link_of found ≡ l

find_link : (rs : List Row) (l : Link) → Memᴰ l (row_links rs) → Linked rs l
unfolding row_links
find_link [] l m = absurd (Memᴰ.not-nil m)
find_link (r ∷ rs) l m =
    choose_case (λ (ls : List Link). Memᴰ l ls → Linked (r ∷ rs) l) (is_link r.field)
    (λ is w. ⊎_elim (λ e. record { found = r; place = zero; at = first refl; is = is; same = sym e }) (λ v. later (find_link rs l v)) (Memᴰ.cases_cons w))
    (λ isnt w. later (find_link rs l w))
    m
  where
    later : Linked rs l → Linked (r ∷ rs) l
    later p = record { found = p.found; place = suc p.place; at = next p.at; is = p.is; same = p.same }

-- each link of the set is that of a field
pub link_row : (es : List Entry) (l : Link) → Memᴰ l (links es) → Linked (rows_of es) l
link_row es l m = find_link (rows_of es) l (subst (λ (ls : List Link). Memᴰ l ls) (links_rows 0 es) m)

in_links : {r : Row} {rs : List Row} {k : ℕ} → At r rs k → is_link r.field ≡ true → Memᴰ (link_of r) (row_links rs)
unfolding row_links choose
in_links {r} (first e) is = rw (ap (λ (x : Row). is_link x.field) (sym e) ∙ is) (Memᴰ.head (ap link_of e))
in_links {r} (next {y} p) is = choose_case (λ (ls : List Link). Memᴰ (link_of r) ls) (is_link y.field) (λ w. Memᴰ.tail (in_links p is)) (λ w. in_links p is)

-- and each field that is a link has its own among them
pub in_set : (es : List Entry) {r : Row} {k : ℕ} → At r (rows_of es) k → is_link r.field ≡ true → Memᴰ (link_of r) (links es)
in_set es {r} p is = subst (λ (ls : List Link). Memᴰ (link_of r) ls) (sym (links_rows 0 es)) (in_links p is)

-- a link's type is a message
pub link_typed : (f : FieldDescriptor) → is_link f ≡ true → (is_message f || is_group f) ≡ true
link_typed f is = or_left (is_group f) (and_left (is_message f) (not (is_repeated f)) is)

-- ---- leading, by full names and by numbers

module _ {es : List Entry} (s : Sound es) where
  to_numbers : {a c : Bytes} → Led (links es) a c → Leads (tables_of es) (number_of es a) (number_of es c)
  to_numbers stay = here
  to_numbers (go l m e p) =
      let w = link_row es l m in
      step (record {
        field = w.place;
        within = row_within s w.at;
        is = row_link s w.at ∙ w.is;
        from = row_owner s w.at ∙ ap (λ (k : Link). number_of es k.from) w.same ∙ ap (number_of es) e;
        to = row_target s w.at ∙ ap (λ (k : Link). number_of es k.to) w.same;
      })
      (to_numbers p)

  to_names : {x y : ℕ} → Leads (tables_of es) x y → (a c : Bytes) → listed es a ≡ true → listed es c ≡ true → x ≡ number_of es a → y ≡ number_of es c → Led (links es) a c
  to_names here a c ha hc ea ec = subst (λ (z : Bytes). Led (links es) a z) (number_one es a c s.distinct ha hc (sym ea ∙ ec)) stay
  to_names (step l p) a c ha hc ea ec =
      let r = row_at es l.field l.within in
      let is = sym (row_link s r.1) ∙ l.is in
      let typed = row_typed s r.1 (link_typed r.0.field is) in
      go (link_of r.0) (in_set es r.1 is)
      (number_one es r.0.full a s.distinct (row_listed s r.1) ha (sym (row_owner s r.1) ∙ l.from ∙ ea))
      (to_names p (type_name_of r.0) c typed hc (sym l.to ∙ row_target s r.1) ec)

  pub leads_by_number : (a c : Bytes) → listed es a ≡ true → listed es c ≡ true → leadsb (tables_of es) (number_of es a) (number_of es c) ≡ leads (links es) a c
  leads_by_number a c ha hc =
      same_test (leadsb (tables_of es) (number_of es a) (number_of es c)) (leads (links es) a c)
      (λ e. led_complete (links es) a c (to_names (leads_sound (tables_of es) (number_of es a) (number_of es c) e) a c ha hc refl refl))
      (λ e. leads_complete (tables_of es) (number_of es a) (number_of es c) (to_numbers (led_sound (links es) a c e)))

  -- the messages with the numbers a and c
  pub leads_by_names : {e g : Entry} {a c : ℕ} → At e es a → At g es c → leadsb (tables_of es) a c ≡ leads (links es) e.full g.full
  leads_by_names {e} {g} p q =
      rw (← number_at s.distinct p, ← number_at s.distinct q) (leads_by_number e.full g.full (listed_at p) (listed_at q))
