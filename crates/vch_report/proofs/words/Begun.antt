-- Texts and their lines.
use Rattle.std.proofs.Common.{◌≡◌, ℕ, ◌+◌, Bool, true, false, cond, eqb, List, [], ◌∷◌, ◌++◌, Some, refl, sym, ap, subst, ◌∙◌, codes, append_assoc, append-nil}
use Rattle.std.specs.List.{AllByRecursion, flat_map}
use Rattle.vch_model.specs.declared.entry.Entry.{Entry}
use Rattle.vch_model.specs.declared.total.Total.{Total}
use Rattle.vch_model.specs.Text.{newline, entry_line, total_lines, last_lines, counts_text, report_text}
use Rattle.vch_model.specs.TextLines.{split_of, with_line_before, with_byte}
use Rattle.vch_text.specs.Words.{joined}
use Rattle.vch_text.proofs.CallerLemmas.{split_joined, split_line}
use Rattle.vch_report.specs.declared.item.Item.{Item}
use Rattle.vch_report.specs.declared.item.Item.TheVariants as items
use Rattle.vch_report.specs.declared.report.Report.{Report}
use Rattle.vch_report.specs.WellFormed.{IsWellFormed}
use Rattle.vch_report.specs.Items.{item_text}
use Rattle.vch_report.specs.Faults.{IsReport, lines_text, IsBegun}
use Rattle.vch_report.specs.Reading.{Read, nothing, whole}
use Rattle.vch_report.proofs.items.ItemTold.{IsItem}
use Rattle.vch_report.proofs.items.ItemLines.{item_low}
use Rattle.vch_report.proofs.items.ItemsRead.{step_items, task_items, items_read, Counted}
use Rattle.vch_report.proofs.wholes.Runs.{item_lines, lines_append, go, go_told, items_of, all_items, go_whole, Ended, ended}

-- ---- the text of a report has the lines of its items

text_append : (xs ys : List (List ℕ)) → lines_text (xs ++ ys) ≡ lines_text xs ++ lines_text ys
text_append [] ys = refl
text_append (x ∷ xs) ys = ap (λ l. (x ++ newline) ++ l) (text_append xs ys)
    ∙ sym (append_assoc (x ++ newline) (lines_text xs) (lines_text ys))

steps_text : (es : List Entry) → lines_text (item_lines (step_items es)) ≡ flat_map entry_line es
steps_text [] = refl
steps_text (e ∷ es) = ap (λ l. entry_line e ++ l) (steps_text es)

tasks_text : (t : ℕ) (ts : List Total) → lines_text (item_lines (task_items t ts)) ≡ total_lines t ts
tasks_text t [] = refl
tasks_text t (x ∷ ts) = ap (λ l. (item_text (items.Task t x) ++ newline) ++ l) (tasks_text (t + 1) ts)

last_text : (v w : ℕ) → lines_text (item_lines (items.Counts v w ∷ items.End ∷ [])) ≡ last_lines v w
last_text v w = sym (append_assoc (counts_text v w ++ newline) (codes "end") newline)

pub whole_text : (z : ℕ) (es : List Entry) (ts : List Total) (v w : ℕ)
    → report_text z es ts v w ≡ lines_text (item_lines (items_of z es ts v w))
unfolding report_text
whole_text z es ts v w =
    let head = item_text (items.Title z) ++ newline in
    let steps = step_items es in
    let tasks = task_items 1 ts in
    let last = items.Counts v w ∷ items.End ∷ [] in
    let a : lines_text (item_lines (tasks ++ last)) ≡ total_lines 1 ts ++ last_lines v w = ap
    (λ l. lines_text l) (lines_append tasks last) ∙ text_append (item_lines tasks) (item_lines last)
    ∙ ap (λ l. l ++ lines_text (item_lines last)) (tasks_text 1 ts)
    ∙ ap (λ l. total_lines 1 ts ++ l) (last_text v w) in
    let b : lines_text (item_lines (steps ++ (tasks ++ last))) ≡ flat_map entry_line es ++
    (total_lines 1 ts ++ last_lines v w) = ap (λ l. lines_text l) (lines_append steps (tasks ++ last))
    ∙ text_append (item_lines steps) (item_lines (tasks ++ last))
    ∙ ap (λ l. l ++ lines_text (item_lines (tasks ++ last))) (steps_text es)
    ∙ ap (λ l. flat_map entry_line es ++ l) a in
    sym (ap (λ l. head ++ l) b
    ∙ sym (append_assoc head (flat_map entry_line es) (total_lines 1 ts ++ last_lines v w))
    ∙ sym (append_assoc (head ++ flat_map entry_line es) (total_lines 1 ts) (last_lines v w)))

-- ---- lines are cut where they were joined

-- a line without a line feed
abbrev pub IsOne : List ℕ → Type 0
IsOne l = (rest : List ℕ) → split_of (l ++ (10 ∷ rest)) ≡ with_line_before l (split_of rest)

abbrev pub onto : List (List ℕ) → List (List ℕ) × List ℕ → List (List ℕ) × List ℕ
onto ls p = (ls ++ p.0, p.1)

pub split_lines : (ls : List (List ℕ)) (more : List ℕ) → AllByRecursion IsOne ls
    → split_of (lines_text ls ++ more) ≡ onto ls (split_of more)
split_lines [] more h = refl
split_lines (l ∷ ls) more h =
    let e : lines_text (l ∷ ls) ++ more ≡ l ++ (10 ∷ (lines_text ls ++ more)) = append_assoc (l ++ newline)
    (lines_text ls) more ∙ append_assoc l newline (lines_text ls ++ more) in
    ap split_of e ∙ h.0 (lines_text ls ++ more) ∙ ap (with_line_before l) (split_lines ls more h.1)

one_nil : IsOne []
unfolding split_of
one_nil rest = refl

one_cons : (c : ℕ) (l : List ℕ) → eqb c 10 ≡ false → IsOne l → IsOne (c ∷ l)
unfolding split_of
one_cons c l other h rest = rw other (ap (with_byte c) (h rest))

ones_byte : (c : ℕ) (p : List (List ℕ) × List ℕ) → eqb c 10 ≡ false → AllByRecursion IsOne p.0
    → AllByRecursion IsOne (with_byte c p).0
ones_byte c ([], rest) e h = tt
ones_byte c (l ∷ ls, rest) e h = (one_cons c l e h.0, h.1)

ones_test : (b : Bool) (c : ℕ) (p : List (List ℕ) × List ℕ) → eqb c 10 ≡ b → AllByRecursion IsOne p.0
    → AllByRecursion IsOne (cond b ([] ∷ p.0, p.1) (with_byte c p)).0
ones_test true c p e h = (one_nil, h)
ones_test false c p e h = ones_byte c p e h

pub split_ones : (text : List ℕ) → AllByRecursion IsOne (split_of text).0
unfolding split_of
split_ones [] = tt
split_ones (c ∷ cs) = ones_test (eqb c 10) c (split_of cs) refl (split_ones cs)

items_ones : (is : List Item) → AllByRecursion IsItem is → AllByRecursion IsOne (item_lines is)
items_ones [] h = tt
items_ones (i ∷ is) h = (λ rest. split_line (item_text i) rest (item_low i h.0), items_ones is h.1)

abbrev pub cut : List (List ℕ) → List ℕ → List (List ℕ) × List ℕ
cut ls rest = (ls, rest)

-- ---- a report's text

pub counted : (r : Report) → IsWellFormed r → Counted r.version r.history.entries r.totals r.vouchers r.values
counted r h = record {
  listed = record {
    known = h.version;
    entries = h.entries;
    totals = h.totals;
    some = h.some_task;
    few = h.numbered;
  };
  vouchers = h.vouchers;
  values = h.values;
}

pub well_formed : (r : Report) → Counted r.version r.history.entries r.totals r.vouchers r.values → IsWellFormed r
well_formed r c = record {
  version = c.listed.known;
  entries = c.listed.entries;
  totals = c.listed.totals;
  some_task = c.listed.some;
  numbered = c.listed.few;
  vouchers = c.vouchers;
  values = c.values;
}

abbrev pub lines_of : Report → List (List ℕ)
lines_of r = item_lines (items_of r.version r.history.entries r.totals r.vouchers r.values)

split_nil : split_of [] ≡ cut [] []
unfolding split_of
split_nil = refl

pub report_split : (text : List ℕ) (r : Report) → IsReport text r → split_of text ≡ cut (lines_of r) []
report_split text r h =
    let is = items_of r.version r.history.entries r.totals r.vouchers r.values in
    let all = all_items r.version r.history.entries r.totals r.vouchers r.values (counted r h.0) in
    let e : text ≡ lines_text (lines_of r) ++ [] = h.1 ∙ whole_text r.version r.history.entries r.totals r.vouchers r.values
    ∙ sym (append-nil (lines_text (lines_of r))) in
    ap split_of e ∙ split_lines (lines_of r) [] (items_ones is all) ∙ ap (onto (lines_of r)) split_nil
    ∙ ap (λ l. cut l []) (append-nil (lines_of r))

pub report_goes : (r : Report) → IsWellFormed r → go nothing (lines_of r) ≡ Some (whole r)
report_goes r h = go_whole r.version r.history.entries r.totals r.vouchers r.values (counted r h)

-- what was read to its end is the report's text
pub whole_report : (text : List ℕ) (r : Report) (lines : List (List ℕ)) → split_of text ≡ cut lines []
    → go nothing lines ≡ Some (whole r) → IsReport text r
whole_report text r lines e g =
    let w = go_told nothing (whole r) lines (refl, refl) g in
    let joins : text ≡ lines_text lines ++ [] = sym (split_joined text)
    ∙ ap (λ (p : List (List ℕ) × List ℕ). joined p) e in (
      well_formed r w.good,
      joins ∙ append-nil (lines_text lines) ∙ ap (λ l. lines_text l) (sym w.spelled)
          ∙ sym (whole_text r.version r.history.entries r.totals r.vouchers r.values),
    )

-- ---- lines that lead to something begin a report

report_with : ℕ → List Entry → List Total → ℕ → ℕ → Report
report_with z es ts v w = record { version = z; history = record { entries = es; spare = 0 }; totals = ts; vouchers = v; values = w }

begun_by : (before : List (List ℕ)) (d : Read) → item_lines (items_read d) ≡ before → Ended d → IsBegun before
unfolding report_with
begun_by before d e x =
    let r = report_with x.version x.entries x.totals x.vouchers x.values in
    let more = lines_text (item_lines x.more) in
    let lines : lines_of r ≡ before ++ item_lines x.more = ap item_lines x.items
    ∙ lines_append (items_read d) x.more ∙ ap (λ l. l ++ item_lines x.more) e in (
      r,
      more,
      (
        well_formed r x.good,
        sym (text_append before (item_lines x.more))
            ∙ ap (λ l. lines_text l) (sym lines) ∙ sym (whole_text x.version x.entries x.totals x.vouchers x.values),
      ),
    )

pub begun : (before : List (List ℕ)) (d : Read) → go nothing before ≡ Some d → IsBegun before
begun before d g = let w = go_told nothing d before (refl, refl) g in begun_by before d w.spelled (ended d w.good)

-- fewer lines begin it too
pub begun_shorter : (a : List (List ℕ)) (x : List ℕ) (xs : List (List ℕ)) → IsBegun (a ++ x ∷ xs)
    → IsBegun (a ++ x ∷ [])
begun_shorter a x xs b =
    let first : a ++ x ∷ xs ≡ (a ++ x ∷ []) ++ xs = sym (append_assoc a (x ∷ []) xs) in
    let e : lines_text (a ++ x ∷ xs) ++ b.1 ≡ lines_text (a ++ x ∷ []) ++ (lines_text xs ++ b.1) =
    ap (λ l. lines_text l ++ b.1) first ∙ ap (λ l. l ++ b.1) (text_append (a ++ x ∷ []) xs)
    ∙ append_assoc (lines_text (a ++ x ∷ [])) (lines_text xs) b.1 in
    (b.0, lines_text xs ++ b.1, subst (λ (t : List ℕ). IsReport t b.0) e b.2)
