-- What lines make of a report.
use Rattle.std.proofs.Common.{◌≡◌, inl, ℕ, ◌+◌, ◌^◌, ◌≤◌, true, eqb, List, [], ◌∷◌, ◌++◌, length, Option, Some, None, refl, sym, ap, ◌∙◌, arith, append_assoc, append-nil, length-append}
use Rattle.std.proofs.lemmas.Grind.{common_steps}
use Rattle.std.specs.List.{AllByRecursion}
use Rattle.vch_model.specs.declared.entry.Entry.{Entry}
use Rattle.vch_model.specs.declared.total.Total.{Total}
use Rattle.vch_report.specs.declared.item.Item.{Item}
use Rattle.vch_report.specs.declared.item.Item.TheVariants as items
use Rattle.vch_report.specs.declared.draft.Place.{Place}
use Rattle.vch_report.specs.declared.draft.Place.TheVariants as places
use Rattle.vch_model.specs.WellFormed.{IsEntry, IsTotal}
use Rattle.vch_report.specs.WellFormed.{IsVersion}
use Rattle.vch_report.proofs.items.Later.{entry_is_of, entry_later}
use Rattle.vch_report.specs.Items.{item_text}
use Rattle.vch_report.specs.Lines.{item_of}
use Rattle.vch_report.specs.Reading.{Read, nothing, with_item, with_entry, with_total, step_of}
use Rattle.vch_text.specs.Reading.{◌>>=◌}
use Rattle.vch_report.proofs.wholes.Same.{found_at}
use Rattle.vch_report.proofs.items.ItemTold.{IsItem, item_told}
use Rattle.vch_report.proofs.items.ItemLines.{item_again}
use Rattle.vch_report.proofs.items.ItemsRead.{step_items, task_items, items_read, GoodAt, IsGood, with_told, Listed, Counted}

-- ---- lines

abbrev pub item_lines : List Item → List (List ℕ)
item_lines [] = []
item_lines (i ∷ is) = item_text i ∷ item_lines is

pub lines_append : (is js : List Item) → item_lines (is ++ js) ≡ item_lines is ++ item_lines js
lines_append [] js = refl
lines_append (i ∷ is) js = ap (λ l. item_text i ∷ l) (lines_append is js)

abbrev pub go : Read → List (List ℕ) → Option Read
go d [] = Some d
go d (l ∷ lines) = step_of d l >>= λ e. go e lines

abbrev pub run : Read → List Item → Option Read
run d [] = Some d
run d (i ∷ is) = with_item d.place d i >>= λ e. run e is

bind_some : {A B : Type 0} (r : Option A) (f : A → Option B) (y : B) → (r >>= f) ≡ Some y
    → (x : A) × (r ≡ Some x) × (f x ≡ Some y)
bind_some (Some x) f y e = (x, refl, e)
bind_some None f y e = absurd cc

-- a line that may stand
pub record Stepped (d : Read) (l : List ℕ) (e : Read) : Type 0 where
  pub good : IsGood e
  pub lines : item_lines (items_read e) ≡ item_lines (items_read d) ++ l ∷ []

pub step_told : (d e : Read) (l : List ℕ) → IsGood d → step_of d l ≡ Some e → Stepped d l e
unfolding step_of
step_told d e l g s =
    let b = bind_some (item_of l) (λ i. with_item d.place d i) e s in
    let t = item_told l b.0 b.1 in
    let w = with_told d.place d b.0 e refl g t.good b.2 in
    record {
      good = w.good;
      lines = ap item_lines w.items ∙ lines_append (items_read d) (b.0 ∷ [])
          ∙ ap (λ x. item_lines (items_read d) ++ x ∷ []) (sym t.text);
    }

pub step_again : (d : Read) (i : Item) → IsItem i → step_of d (item_text i) ≡ with_item d.place d i
unfolding step_of
step_again d i h = rw (item_again i h) refl

by_item : (r : Option Read) (js : List Item) → ((e : Read) → go e (item_lines js) ≡ run e js)
    → (r >>= λ e. go e (item_lines js)) ≡ (r >>= λ e. run e js)
by_item (Some e) js rec = rec e
by_item None js rec = refl

pub run_lines : (d : Read) (is : List Item) → AllByRecursion IsItem is → go d (item_lines is) ≡ run d is
run_lines d [] h = refl
run_lines d (i ∷ is) h = rw (step_again d i h.0) (by_item (with_item d.place d i) is (λ e. run_lines e is h.1))

go_from : (r : Option Read) (xs ys : List (List ℕ)) → ((e : Read) → go e (xs ++ ys) ≡ (go e xs >>= λ x. go x ys))
    → (r >>= λ e. go e (xs ++ ys)) ≡ ((r >>= λ e. go e xs) >>= λ x. go x ys)
go_from (Some e) xs ys rec = rec e
go_from None xs ys rec = refl

pub go_append : (d : Read) (xs ys : List (List ℕ)) → go d (xs ++ ys) ≡ (go d xs >>= λ e. go e ys)
go_append d [] ys = refl
go_append d (x ∷ xs) ys = go_from (step_of d x) xs ys (λ e. go_append e xs ys)

-- what lines make of what was read
pub record Went (d : Read) (lines : List (List ℕ)) (e : Read) : Type 0 where
  pub good : IsGood e
  pub spelled : item_lines (items_read e) ≡ item_lines (items_read d) ++ lines

pub go_told : (d e : Read) (lines : List (List ℕ)) → IsGood d → go d lines ≡ Some e → Went d lines e
go_told d e [] g s = found_at (λ x. Went d [] x) d e s (record {
  good = g;
  spelled = sym (append-nil (item_lines (items_read d)));
})
go_told d e (l ∷ ls) g s =
    let b = bind_some (step_of d l) (λ x. go x ls) e s in
    let t = step_told d b.0 l g b.1 in
    let w = go_told b.0 e ls t.good b.2 in
    record {
      good = w.good;
      spelled = w.spelled ∙ ap (λ x. x ++ ls) t.lines
          ∙ append_assoc (item_lines (items_read d)) (l ∷ []) ls;
    }

-- ---- the items of a whole report lead to it

abbrev at_entries : ℕ → List Entry → Read
at_entries z es = record { place = places.Entries; version = z; entries = es; totals = []; vouchers = 0; values = 0 }

abbrev at_totals : ℕ → List Entry → List Total → Read
at_totals z es ts = record { place = places.Totals; version = z; entries = es; totals = ts; vouchers = 0; values = 0 }

abbrev pub done : ℕ → List Entry → List Total → ℕ → ℕ → Read
done z es ts v w = record { place = places.Done; version = z; entries = es; totals = ts; vouchers = v; values = w }

entry_goes : (z : ℕ) (es : List Entry) (x : Entry) → IsVersion z → IsEntry z x → with_entry (at_entries z es) x ≡ Some (at_entries z (es ++ x ∷ []))
entry_goes z es x k h = rw (entry_is_of z x k h) refl

run_steps : (z : ℕ) (es xs : List Entry) (js : List Item) → IsVersion z → AllByRecursion (IsEntry z) xs
    → run (at_entries z es) (step_items xs ++ js) ≡ run (at_entries z (es ++ xs)) js
run_steps z es [] js k h = ap (λ l. run (at_entries z l) js) (sym (append-nil es))
run_steps z es (x ∷ xs) js k h =
    rw (entry_goes z es x k h.0) (run_steps z (es ++ x ∷ []) xs js k h.1
    ∙ ap (λ l. run (at_entries z l) js) (append_assoc es (x ∷ []) xs))

total_goes : (d : Read) (t : ℕ) (x : Total) → t ≡ length d.totals + 1
    → with_total d t x ≡ Some (record d { place = places.Totals; totals = d.totals ++ x ∷ [] })
total_goes d t x e = let yes : eqb t (length d.totals + 1) ≡ true = grind (arith, common_steps) in rw yes refl

run_totals : (z : ℕ) (es : List Entry) (ts xs : List Total) (t : ℕ) (js : List Item) → t ≡ length ts + 1
    → run (at_totals z es ts) (task_items t xs ++ js) ≡ run (at_totals z es (ts ++ xs)) js
run_totals z es ts [] t js e = ap (λ l. run (at_totals z es l) js) (sym (append-nil ts))
run_totals z es ts (x ∷ xs) t js e =
    let n : t + 1 ≡ length (ts ++ x ∷ []) + 1 = omega (arith, length-append ts (x ∷ [])) in
    rw (total_goes (at_totals z es ts) t x e) (run_totals z es (ts ++ x ∷ []) xs (t + 1) js n
    ∙ ap (λ l. run (at_totals z es l) js) (append_assoc ts (x ∷ []) xs))

run_tasks : (z : ℕ) (es : List Entry) (ts : List Total) (js : List Item) → 1 ≤ length ts
    → run (at_entries z es) (task_items 1 ts ++ js) ≡ run (at_totals z es ts) js
run_tasks z es [] js some = absurd (omega arith)
run_tasks z es (x ∷ ts) js some = run_totals z es (x ∷ []) ts 2 js refl

abbrev pub items_of : ℕ → List Entry → List Total → ℕ → ℕ → List Item
items_of z es ts v w = items_read (done z es ts v w)

pub run_whole : (z : ℕ) (es : List Entry) (ts : List Total) (v w : ℕ) → Listed z es ts
    → run nothing (items_of z es ts v w) ≡ Some (done z es ts v w)
run_whole z es ts v w h =
    let js = items.Counts v w ∷ items.End ∷ [] in
    run_steps z [] es (task_items 1 ts ++ js) h.known h.entries ∙ run_tasks z es ts js h.some

-- ---- its items are good

all_append : (is js : List Item) → AllByRecursion IsItem is → AllByRecursion IsItem js
    → AllByRecursion IsItem (is ++ js)
all_append [] js h g = g
all_append (i ∷ is) js h g = (h.0, all_append is js h.1 g)

all_steps : (z : ℕ) (es : List Entry) → IsVersion z → AllByRecursion (IsEntry z) es → AllByRecursion IsItem (step_items es)
all_steps z [] k h = tt
all_steps z (e ∷ es) k h = (entry_later z e k h.0, all_steps z es k h.1)

all_tasks : (t : ℕ) (ts : List Total) → 1 ≤ t → t + length ts ≤ 2 ^ 32 → AllByRecursion IsTotal ts
    → AllByRecursion IsItem (task_items t ts)
all_tasks t [] some few h = tt
all_tasks t (x ∷ ts) some few h = (((some, omega arith), h.0), all_tasks (t + 1) ts (omega arith) (omega arith) h.1)

pub all_items : (z : ℕ) (es : List Entry) (ts : List Total) (v w : ℕ) → Counted z es ts v w
    → AllByRecursion IsItem (items_of z es ts v w)
all_items z es ts v w g = (
  g.listed.known,
  all_append (step_items es) (task_items 1 ts ++ items.Counts v w ∷ items.End ∷ []) (all_steps z es g.listed.known g.listed.entries)
      (all_append (task_items 1 ts) (items.Counts v w ∷ items.End ∷ []) (all_tasks 1 ts (omega arith) (omega (
        arith,
        g.listed.few,
      )) g.listed.totals) ((g.vouchers, g.values), (tt, tt))),
)

-- the lines of a good report lead to it
pub go_whole : (z : ℕ) (es : List Entry) (ts : List Total) (v w : ℕ) → Counted z es ts v w
    → go nothing (item_lines (items_of z es ts v w)) ≡ Some (done z es ts v w)
go_whole z es ts v w g = run_lines nothing (items_of z es ts v w) (all_items z es ts v w g)
    ∙ run_whole z es ts v w g.listed

-- ---- what was read is the beginning of a report

-- entries, totals and counts of a report that goes on with these items
pub record Ended (d : Read) : Type 0 where
  pub version : ℕ
  pub entries : List Entry
  pub totals : List Total
  pub vouchers : ℕ
  pub values : ℕ
  pub good : Counted version entries totals vouchers values
  pub more : List Item
  pub items : items_of version entries totals vouchers values ≡ items_read d ++ more

abbrev none : Total
none = record { ledger = 0; held = 0; out = 0 }

one_task : (z : ℕ) (es : List Entry) → IsVersion z → AllByRecursion (IsEntry z) es → Counted z es (none ∷ []) 0 0
one_task z es k h = record {
  listed = record {
    known = k;
    entries = h;
    totals = ((omega arith, omega arith, omega arith), tt);
    some = omega arith;
    few = omega arith;
  };
  vouchers = omega arith;
  values = omega arith;
}

ended_at : (p : Place) (d : Read) → d.place ≡ p → GoodAt p d → Ended d
ended_at places.Title d at g =
    record {
      version = 1;
      entries = [];
      totals = none ∷ [];
      vouchers = 0;
      values = 0;
      good = one_task 1 [] (inl refl) tt;
      more = items_of 1 [] (none ∷ []) 0 0;
      items = rw at refl;
    }
ended_at places.Entries d at g =
    record {
      version = d.version;
      entries = d.entries;
      totals = none ∷ [];
      vouchers = 0;
      values = 0;
      good = one_task d.version d.entries g.0 g.1;
      more = items.Task 1 none ∷ items.Counts 0 0 ∷ items.End ∷ [];
      items = rw at refl;
    }
ended_at places.Totals d at g =
    record {
      version = d.version;
      entries = d.entries;
      totals = d.totals;
      vouchers = 0;
      values = 0;
      good = record { listed = g; vouchers = omega arith; values = omega arith };
      more = items.Counts 0 0 ∷ items.End ∷ [];
      items = rw at (ap (λ l. items.Title d.version ∷ l)
          (sym (append_assoc (step_items d.entries) (task_items 1 d.totals) (items.Counts 0 0 ∷ items.End ∷ []))));
    }
ended_at places.End d at g =
    record {
      version = d.version;
      entries = d.entries;
      totals = d.totals;
      vouchers = d.vouchers;
      values = d.values;
      good = record { listed = g.listed; vouchers = g.vouchers; values = g.values };
      more = items.End ∷ [];
      items = rw at (ap (λ l. items.Title d.version ∷ l) (ap
          (λ l. step_items d.entries ++ l)
          (sym (append_assoc (task_items 1 d.totals) (items.Counts d.vouchers d.values ∷ []) (items.End ∷ [])))
          ∙ sym (append_assoc (step_items d.entries)
          (task_items 1 d.totals ++ items.Counts d.vouchers d.values ∷ []) (items.End ∷ []))));
    }
ended_at places.Done d at g =
    record {
      version = d.version;
      entries = d.entries;
      totals = d.totals;
      vouchers = d.vouchers;
      values = d.values;
      good = record { listed = g.listed; vouchers = g.vouchers; values = g.values };
      more = [];
      items = rw at (sym (append-nil (items_of d.version d.entries d.totals d.vouchers d.values)));
    }

pub ended : (d : Read) → IsGood d → Ended d
ended d g = ended_at d.place d refl g
