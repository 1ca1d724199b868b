-- The loops over lines, entries, totals and tasks.
use Rattle.std.proofs.Common.{◌≡◌, ℕ, zero, suc, ◌+◌, ◌<◌, ◌≤◌, Bool, true, false, cond, eqb, List, [], ◌∷◌, ◌++◌, length, length-append, take, slice_index, Option, Some, None, Result, Ok, Err, sym, ap, subst, ◌∙◌, arith, append_assoc, append-nil, IfOk, codes}
use Rattle.std.specs.List.{flat_map, slice_get}
use Rattle.std.specs.Fmt.{decimal}
use Rattle.vch_model.specs.declared.entry.Entry.{Entry}
use Rattle.vch_model.specs.declared.total.Total.{Total}
use Rattle.vch_model.specs.declared.entry.Entry.TheVariants as entries
use Rattle.std.specs.List.{AllByRecursion}
use Rattle.vch_model.specs.WellFormed.{IsRanged, IsEntry}
use Rattle.vch_report.specs.WellFormed.{Making}
use Rattle.vch_model.specs.Text.{newline, entry_line, total_line, total_lines, last_lines, report_text}
use Rattle.vch_model.specs.TextLines.{split_of, with_line_before}
use Rattle.vch_text.specs.Reading.{◌>>=◌}
use Rattle.vch_report.specs.declared.draft.Place.{Place}
use Rattle.vch_report.specs.declared.draft.Place.TheVariants as places
use Rattle.vch_report.specs.declared.item.Item.{Item}
use Rattle.vch_report.specs.declared.item.Item.TheVariants as items
use Rattle.vch_report.specs.declared.report.Report.{Report}
use Rattle.vch_report.specs.declared.fault.ReportFault.{ReportFault}
use Rattle.vch_report.specs.declared.fault.ReportFault.TheVariants as faults
use Rattle.vch_report.specs.declared.fault.Stop.{Stop}
use Rattle.vch_report.specs.declared.fault.Stop.TheVariants as stops
use Rattle.vch_report.specs.Lines.{item_of}
use Rattle.vch_report.specs.Items.{text_of}
use Rattle.vch_report.specs.Faults.{IsReport, IsRead, IsFault, IsRefused, IsFaultOf}
use Rattle.vch_report.specs.Reading.{Read, whole, is_of, with_item, step_of, finish, read_text, read_of, Gives, Reads, fault_at}
use Rattle.vch_report.proofs.words.ChainWords.{chain_text}
use Rattle.vch_report.proofs.wholes.Same.{found, found_at, right_is, wrong_is}
use Rattle.vch_report.proofs.wholes.Wholes.{goes_on, lines_more, lines_none, read_again, read_report, read_fault, fault_again, whole_same}

-- ---- lines

pub fault_read : (n : ℕ) (d : Read) (view : Unit {0} → Read) (l : List ℕ) (p : List (List ℕ) × List ℕ) (stop : Stop) (r : Result Read ℕ)
    → Gives {X = Unit {0}} {Y = Read} view (Err stop) (step_of d l) → read_text n d (with_line_before l p) ≡ r
    → Reads (Err (fault_at n stop)) r
fault_read n d view l p (stops.Memory cause) r s e = tt
fault_read n d view l p stops.Fault r s e = sym e ∙ lines_more n d l p.0 p.1 ∙ ap (goes_on n p.0 p.1) s

pub line_read : (n : ℕ) (d e : Read) (l : List ℕ) (p : List (List ℕ) × List ℕ) (r : Result Read ℕ)
    → step_of d l ≡ Some e → read_text n d (with_line_before l p) ≡ r → read_text (n + 1) e p ≡ r
line_read n d e l p r s h = sym (ap (goes_on n p.0 p.1) s) ∙ sym (lines_more n d l p.0 p.1) ∙ h

pub end_read : (n : ℕ) (d : Read) (rest : List ℕ) → read_text n d ([], rest) ≡ finish n d rest
end_read n d rest = lines_none n d rest

pub start_read : (es : List Entry) (ts : List Total) (text : List ℕ) → es ≡ [] → ts ≡ []
    → read_text 1 (record {
      place = places.Title;
      version = 0;
      entries = es;
      totals = ts;
      vouchers = 0;
      values = 0;
    }) (split_of text) ≡ read_of text
unfolding read_of
start_read es ts text e t =
    ap (λ (x : List Entry). read_text 1 (record {
      place = places.Title;
      version = 0;
      entries = x;
      totals = ts;
      vouchers = 0;
      values = 0;
    }) (split_of text)) e
    ∙ ap (λ (x : List Total). read_text 1 (record {
      place = places.Title;
      version = 0;
      entries = [];
      totals = x;
      vouchers = 0;
      values = 0;
    }) (split_of text)) t

pub stopped_by : (f g : ReportFault) (r : Result Read ℕ) → f ≡ g → Reads (Err f) r → Reads (Err g) r
stopped_by f g r e h = subst (λ (x : ReportFault). Reads (Err x) r) e h

pub reads_by : (x : Result Report ReportFault) (r t : Result Read ℕ) → r ≡ t → Reads x r → Reads x t
reads_by x r t e h = subst (λ (y : Result Read ℕ). Reads x y) e h

-- ---- a line adds one total at most

abbrev Few : Read → Read → Type 0
Few d e = length e.totals ≤ length d.totals + 1

few_total : (b : Bool) (d x e : Read) → cond b (found x) None ≡ Some e → Few d x → Few d e
few_total true d x e h f = found_at (λ y. Few d y) x e h f
few_total false d x e h f = absurd cc

few_item : (p : Place) (d : Read) (i : Item) (e : Read) → with_item p d i ≡ Some e → Few d e
few_item places.Title d (items.Title v) e h = found_at (λ x. Few d x) (record d { place = places.Entries; version = v }) e h (omega arith)
few_item places.Entries d (items.Step y) e h = few_total (is_of d.version y) d (record d { entries = d.entries ++ y ∷ [] }) e h (omega arith)
few_item places.Entries d (items.Task t x) e h = few_total (eqb t (length d.totals + 1)) d
    (record d {
      place = places.Totals;
      totals = d.totals ++ x ∷ [];
    }) e h (omega (arith, length-append d.totals (x ∷ [])))
few_item places.Totals d (items.Task t x) e h = few_total (eqb t (length d.totals + 1)) d
    (record d {
      place = places.Totals;
      totals = d.totals ++ x ∷ [];
    }) e h (omega (arith, length-append d.totals (x ∷ [])))
few_item places.Totals d (items.Counts v w) e h = found_at (λ x. Few d x) (record d {
  place = places.End;
  vouchers = v;
  values = w;
}) e h (omega arith)
few_item places.End d items.End e h = found_at (λ x. Few d x) (record d { place = places.Done }) e h (omega arith)
few_item p d i e h = absurd cc

few_bind : (r : Option Item) (d e : Read) → (r >>= λ i. with_item d.place d i) ≡ Some e → Few d e
few_bind (Some i) d e h = few_item d.place d i e h
few_bind None d e h = absurd cc

pub step_few : (d e : Read) (l : List ℕ) → step_of d l ≡ Some e → length e.totals ≤ length d.totals + 1
unfolding step_of
step_few d e l h = few_bind (item_of l) d e h

-- ---- what reading answers

wrong_by : (n k : ℕ) (r : Result Read ℕ) → r ≡ Err n → r ≡ Err k → n ≡ k
wrong_by n k r h g = wrong_is n k (sym h ∙ g)

pub found_by : (text : List ℕ) (x : Result Report ReportFault) → Reads x (read_of text) → IfOk x (λ r. IsReport text r)
found_by text (Ok r) h = read_report text r h
found_by text (Err e) h = tt

pub only_by : (text : List ℕ) (x : Result Report ReportFault) (r : Report) → Reads x (read_of text)
    → IsReport text r → IsRead x r
only_by text (Ok a) r h g = whole_same a r (right_is (whole a) (whole r) (sym h ∙ read_again text r g))
only_by text (Err (faults.NoMemory cause)) r h g = tt
only_by text (Err (faults.At line)) r h g = let e = read_again text r g in absurd cc

pub fault_by : (text : List ℕ) (x : Result Report ReportFault) → Reads x (read_of text) → IsFaultOf x text
fault_by text (Ok r) h = tt
fault_by text (Err (faults.NoMemory cause)) h = tt
fault_by text (Err (faults.At line)) h = read_fault text line h

pub fault_only_by : (text : List ℕ) (x : Result Report ReportFault) (n : ℕ) → Reads x (read_of text)
    → IsFault text n → IsRefused x n
fault_only_by text (Ok r) n h g = let e = fault_again text n g in absurd cc
fault_only_by text (Err (faults.NoMemory cause)) n h g = tt
fault_only_by text (Err (faults.At line)) n h g = wrong_by line n (read_of text) h (fault_again text n g)

-- ---- what is written, one more at a time

pub entry_next : (es : List Entry) (i : ℕ) (e : Entry) → slice_get es i ≡ Some e
    → flat_map entry_line (take (i + 1) es) ≡ flat_map entry_line (take i es) ++ entry_line e
entry_next [] i e h = absurd cc
entry_next (x ∷ es) zero e h = let same : x ≡ e = cc in append-nil (entry_line x) ∙ ap (λ y. entry_line y) same
entry_next (x ∷ es) (suc i) e h =
    let n : suc i + 1 ≡ suc (i + 1) = omega arith in
    rw n (ap (λ l. entry_line x ++ l) (entry_next es i e h)
    ∙ sym (append_assoc (entry_line x) (flat_map entry_line (take i es)) (entry_line e)))

pub total_next : (ts : List Total) (t i : ℕ) (x : Total) → slice_get ts i ≡ Some x
    → total_lines t (take (i + 1) ts) ≡ total_lines t (take i ts) ++ total_line (t + i) x
total_next [] t i x h = absurd cc
total_next (y ∷ ts) t zero x h = let same : y ≡ x = cc in let n : t ≡ t + 0 = omega arith in
    append-nil (total_line t y) ∙ ap (λ z. total_line t z) same ∙ ap (λ k. total_line k x) n
total_next (y ∷ ts) t (suc i) x h =
    let n : suc i + 1 ≡ suc (i + 1) = omega arith in
    let k : t + 1 + i ≡ t + suc i = omega arith in
    rw n (ap (λ l. total_line t y ++ l) (total_next ts (t + 1) i x h
    ∙ ap (λ m. total_lines (t + 1) (take i ts) ++ total_line m x) k)
    ∙ sym (append_assoc (total_line t y) (total_lines (t + 1) (take i ts)) (total_line (t + suc i) x)))

pub pushed : (old x y z mid new : List ℕ) → mid ≡ old ++ x → new ≡ mid ++ y → z ≡ x ++ y → new ≡ old ++ z
pushed old x y z mid new m n e = n ∙ ap (λ l. l ++ y) m ∙ append_assoc old x y ∙ ap (λ l. old ++ l) (sym e)

pub task_first : (ts : List ℕ) (i t : ℕ) → i < length ts → t ≡ slice_index ts i → i ≤ 0
    → chain_text (take (i + 1) ts) ≡ chain_text (take i ts) ++ decimal t
task_first [] i t lt e le = absurd (omega arith)
task_first (x ∷ ts) zero t lt e le = ap (λ (n : ℕ). decimal n) (sym e)
task_first (x ∷ ts) (suc i) t lt e le = absurd (omega arith)

pub task_next : (ts : List ℕ) (i t : ℕ) → i < length ts → t ≡ slice_index ts i → 0 < i
    → chain_text (take (i + 1) ts) ≡ (chain_text (take i ts) ++ codes ",") ++ decimal t
task_next [] i t lt e some = absurd (omega arith)
task_next (x ∷ ts) zero t lt e some = absurd (omega arith)
task_next (x ∷ []) (suc i) t lt e some = absurd (omega arith)
task_next (x ∷ y ∷ ts) (suc zero) t lt e some =
    ap (λ (n : ℕ). decimal x ++ (44 ∷ decimal n)) (sym e) ∙ sym (append_assoc (decimal x) (codes ",") (decimal t))
task_next (x ∷ y ∷ ts) (suc (suc i)) t lt e some =
    let n : suc (suc i) + 1 ≡ suc (suc (i + 1)) = omega arith in
    let m : suc i + 1 ≡ suc (i + 1) = omega arith in
    let rec = rw m at (task_next (y ∷ ts) (suc i) t (omega arith) e (omega arith)) in
    rw n (ap (λ l. decimal x ++ (44 ∷ l)) rec ∙ regroup (decimal x) (chain_text (take (suc i) (y ∷ ts))) (decimal t))
  where
    regroup : (a b c : List ℕ) → a ++ (44 ∷ ((b ++ codes ",") ++ c)) ≡ ((a ++ (44 ∷ b)) ++ codes ",") ++ c
    regroup a b c = simp append_assoc

pub written : (r : Report) (o0 o1 o2 o3 o4 o5 o6 : List ℕ) → o0 ≡ [] → o1 ≡ o0 ++ codes "report" → o2 ≡ o1 ++ (32 ∷ decimal r.version)
    → o3 ≡ o2 ++ newline → o4 ≡ o3 ++ flat_map entry_line r.history.entries → o5 ≡ o4 ++ total_lines 1 r.totals
    → o6 ≡ o5 ++ last_lines r.vouchers r.values → o6 ≡ text_of r
unfolding report_text
written r o0 o1 o2 o3 o4 o5 o6 h0 h1 h2 h3 h4 h5 h6 =
    let title : o3 ≡ (codes "report" ++ (32 ∷ decimal r.version)) ++ newline = h3 ∙ ap (λ l. l ++ newline) (h2
    ∙ ap (λ l. l ++ (32 ∷ decimal r.version)) (h1 ∙ ap (λ l. l ++ codes "report") h0)) in
    h6 ∙ ap (λ l. l ++ last_lines r.vouchers r.values) (h5 ∙ ap (λ l. l ++ total_lines 1 r.totals) (h4
    ∙ ap (λ l. l ++ flat_map entry_line r.history.entries) title))

-- what is written of a report is made
pub all_made : (version : ℕ) (es : List Entry) → AllByRecursion (IsEntry version) es → AllByRecursion (Making IsRanged) es
all_made version [] h = tt
all_made version (e ∷ es) h = (made e h.0, all_made version es h.1)
  where
    made : (e : Entry) → IsEntry version e → Making IsRanged e
    made (entries.Made key x) h = h.1
    made e h = tt

pub pushed_next : (old a comma d text out mid new : List ℕ) → out ≡ old ++ a → mid ≡ out ++ comma → new ≡ mid ++ d
    → text ≡ (a ++ comma) ++ d → new ≡ old ++ text
pushed_next old a comma d text out mid new h m n e =
    n ∙ ap (λ l. l ++ d) (m ∙ ap (λ l. l ++ comma) h) ∙ regroup ∙ ap (λ l. old ++ l) (sym e)
  where
    regroup : ((old ++ a) ++ comma) ++ d ≡ old ++ ((a ++ comma) ++ d)
    regroup = simp append_assoc
