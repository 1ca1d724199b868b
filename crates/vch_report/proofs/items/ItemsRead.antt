-- What an item makes of what was read.
use Rattle.std.proofs.Common.{◌≡◌, ℕ, ◌+◌, ◌^◌, ◌<◌, ◌≤◌, Bool, true, false, cond, eqb, List, [], ◌∷◌, ◌++◌, length, Some, None, refl, sym, ap, ◌∙◌, arith, append_assoc, length-append}
use Rattle.std.proofs.lemmas.Grind.{common_steps}
use Rattle.std.specs.List.{AllByRecursion}
use Rattle.vch_model.specs.declared.entry.Entry.{Entry}
use Rattle.vch_model.specs.declared.total.Total.{Total}
use Rattle.vch_report.specs.declared.item.Item.{Item}
use Rattle.vch_report.specs.declared.item.Item.TheVariants as items
use Rattle.vch_report.specs.declared.draft.Place.{Place}
use Rattle.vch_report.specs.declared.draft.Place.TheVariants as places
use Rattle.vch_model.specs.WellFormed.{IsEntry, IsTotal}
use Rattle.vch_report.specs.WellFormed.{IsVersion}
use Rattle.vch_report.proofs.items.Later.{is_of_entry}
use Rattle.vch_report.specs.Reading.{Read, is_of, with_item}
use Rattle.vch_report.proofs.wholes.Same.{found, found_at}
use Rattle.vch_report.proofs.items.ItemTold.{IsItem}

-- ---- the items of a report

abbrev pub step_items : List Entry → List Item
step_items [] = []
step_items (e ∷ es) = items.Step e ∷ step_items es

abbrev pub task_items : ℕ → List Total → List Item
task_items t [] = []
task_items t (x ∷ xs) = items.Task t x ∷ task_items (t + 1) xs

abbrev pub items_to : Place → Read → List Item
items_to places.Title d = []
items_to places.Entries d = items.Title d.version ∷ step_items d.entries
items_to places.Totals d = items.Title d.version ∷ (step_items d.entries ++ task_items 1 d.totals)
items_to places.End d = items.Title d.version ∷ (step_items d.entries ++
    (task_items 1 d.totals ++ items.Counts d.vouchers d.values ∷ []))
items_to places.Done d = items.Title d.version ∷ (step_items d.entries ++
    (task_items 1 d.totals ++ items.Counts d.vouchers d.values ∷ items.End ∷ []))

-- the items that were read
abbrev pub items_read : Read → List Item
items_read d = items_to d.place d

pub record Listed (version : ℕ) (es : List Entry) (ts : List Total) : Type 0 where
  pub known : IsVersion version
  pub entries : AllByRecursion (IsEntry version) es
  pub totals : AllByRecursion IsTotal ts
  pub some : 1 ≤ length ts
  pub few : length ts < 2 ^ 32

pub record Counted (version : ℕ) (es : List Entry) (ts : List Total) (v w : ℕ) : Type 0 where
  pub listed : Listed version es ts
  pub vouchers : v < 2 ^ 64
  pub values : w < 2 ^ 64

abbrev pub GoodAt : Place → Read → Type 0
GoodAt places.Title d = (d.entries ≡ []) × (d.totals ≡ [])
GoodAt places.Entries d = IsVersion d.version × AllByRecursion (IsEntry d.version) d.entries × (d.totals ≡ [])
GoodAt places.Totals d = Listed d.version d.entries d.totals
GoodAt places.End d = Counted d.version d.entries d.totals d.vouchers d.values
GoodAt places.Done d = Counted d.version d.entries d.totals d.vouchers d.values

abbrev pub IsGood : Read → Type 0
IsGood d = GoodAt d.place d

-- ---- one item more

steps_push : (es : List Entry) (e : Entry) → step_items (es ++ e ∷ []) ≡ step_items es ++ items.Step e ∷ []
steps_push [] e = refl
steps_push (x ∷ es) e = ap (λ l. items.Step x ∷ l) (steps_push es e)

tasks_push : (t : ℕ) (xs : List Total) (x : Total)
    → task_items t (xs ++ x ∷ []) ≡ task_items t xs ++ items.Task (t + length xs) x ∷ []
tasks_push t [] x = let e : t ≡ t + 0 = omega arith in ap (λ n. items.Task n x ∷ []) e
tasks_push t (y ∷ xs) x = let e : t + 1 + length xs ≡ t + length (y ∷ xs) = omega arith in
    ap (λ l. items.Task t y ∷ l) (tasks_push (t + 1) xs x ∙ ap (λ n. task_items (t + 1) xs ++ items.Task n x ∷ []) e)

all_push : {X : Type 0} (P : X → Type 0) (xs : List X) (x : X) → AllByRecursion P xs → P x
    → AllByRecursion P (xs ++ x ∷ [])
all_push P [] x h p = (p, tt)
all_push P (y ∷ xs) x h p = (h.0, all_push P xs x h.1 p)

-- what an item makes of what was read: it is good, and its items are those before and this one
pub record Gone (p : Place) (d : Read) (i : Item) (e : Read) : Type 0 where
  pub good : IsGood e
  pub items : items_read e ≡ items_to p d ++ i ∷ []

first_total : (d : Read) (t : ℕ) (x : Total) → t ≡ length d.totals + 1 → GoodAt places.Entries d
    → IsItem (items.Task t x)
    → Gone places.Entries d (items.Task t x) (record d { place = places.Totals; totals = d.totals ++ x ∷ [] })
first_total d t x n g h = record {
  good = record { known = g.0; entries = g.1; totals = rw g.2 (h.1, tt); some = rw g.2 (omega arith); few = rw g.2 (omega arith) };
  items = let one : t ≡ 1 = omega (arith, ap length g.2) in rw (g.2, one) refl;
}

next_total : (d : Read) (t : ℕ) (x : Total) → t ≡ length d.totals + 1 → Listed d.version d.entries d.totals
    → IsItem (items.Task t x)
    → Gone places.Totals d (items.Task t x) (record d { place = places.Totals; totals = d.totals ++ x ∷ [] })
next_total d t x n g h = record {
  good = record {
    known = g.known;
    entries = g.entries;
    totals = all_push IsTotal d.totals x g.totals h.1;
    some = omega (arith, length-append d.totals (x ∷ []));
    few = omega (arith, length-append d.totals (x ∷ []), h.0.1);
  };
  items =
      let k : 1 + length d.totals ≡ t = omega arith in
      let more : task_items 1
      (d.totals ++ x ∷ []) ≡ task_items 1 d.totals ++ items.Task t x ∷ [] = tasks_push 1 d.totals x
      ∙ ap (λ m. task_items 1 d.totals ++ items.Task m x ∷ []) k in
      ap (λ l. items.Title d.version ∷ (step_items d.entries ++ l)) more
      ∙ ap (λ l. items.Title d.version ∷ l)
      (sym (append_assoc (step_items d.entries) (task_items 1 d.totals) (items.Task t x ∷ [])));
}

total_told : (P : Read → Type 0) (b : Bool) (d e : Read) → cond b (found d) None ≡ Some e → (b ≡ true → P d) → P e
total_told P true d e s p = found_at P d e s (p refl)
total_told P false d e s p = absurd cc

test_true : (a b : ℕ) → eqb a b ≡ true → a ≡ b
test_true a b e = grind (arith, common_steps)

pub with_told : (p : Place) (d : Read) (i : Item) (e : Read) → d.place ≡ p → GoodAt p d → IsItem i
    → with_item p d i ≡ Some e → Gone p d i e
with_told places.Title d (items.Title v) e at g h s =
    found_at (λ x. Gone places.Title d (items.Title v) x) (record d { place = places.Entries; version = v }) e s
    (record { good = (h, rw g.0 tt, g.1); items = rw g.0 refl })
with_told places.Entries d (items.Step y) e at g h s =
    total_told (λ x. Gone places.Entries d (items.Step y) x) (is_of d.version y) (record d { entries = d.entries ++ y ∷ [] }) e s
    (λ of. record {
      good = rw at (g.0, all_push (IsEntry d.version) d.entries y g.1 (is_of_entry d.version y g.0 h of), g.2);
      items = rw at (ap (λ l. items.Title d.version ∷ l) (steps_push d.entries y));
    })
with_told places.Entries d (items.Task t x) e at g h s =
    total_told (λ y. Gone places.Entries d (items.Task t x) y) (eqb t (length d.totals + 1))
    (record d {
      place = places.Totals;
      totals = d.totals ++ x ∷ [];
    }) e s (λ n. first_total d t x (test_true t (length d.totals + 1) n) g h)
with_told places.Totals d (items.Task t x) e at g h s =
    total_told (λ y. Gone places.Totals d (items.Task t x) y) (eqb t (length d.totals + 1))
    (record d {
      place = places.Totals;
      totals = d.totals ++ x ∷ [];
    }) e s (λ n. next_total d t x (test_true t (length d.totals + 1) n) g h)
with_told places.Totals d (items.Counts v w) e at g h s =
    found_at (λ x. Gone places.Totals d (items.Counts v w) x) (record d {
      place = places.End;
      vouchers = v;
      values = w;
    }) e s
    (record {
      good = record { listed = g; vouchers = h.0; values = h.1 };
      items = ap (λ l. items.Title d.version ∷ l)
          (sym (append_assoc (step_items d.entries) (task_items 1 d.totals) (items.Counts v w ∷ [])));
    })
with_told places.End d items.End e at g h s =
    found_at (λ x. Gone places.End d items.End x) (record d { place = places.Done }) e s
    (record {
      good = record { listed = g.listed; vouchers = g.vouchers; values = g.values };
      items = ap (λ l. items.Title d.version ∷ l) (ap
          (λ l. step_items d.entries ++ l)
          (sym (append_assoc (task_items 1 d.totals) (items.Counts d.vouchers d.values ∷ []) (items.End ∷ [])))
          ∙ sym (append_assoc (step_items d.entries)
          (task_items 1 d.totals ++ items.Counts d.vouchers d.values ∷ []) (items.End ∷ [])));
    })
with_told p d i e at g h s = absurd cc
