-- What is read of a text, and what a text can be.
use Rattle.std.proofs.Common.{◌≡◌, ◌⊎◌, ℕ, ◌+◌, Bool, true, false, cond, ◌&&◌, List, [], ◌∷◌, ◌++◌, length, length-append, Option, Some, None, Result, Ok, Err, refl, sym, ap, subst, ◌∙◌, arith, append_assoc, append-nil, inl, inr}
use Rattle.std.specs.List.{AllByRecursion}
use Rattle.vch_model.specs.TextLines.{split_of}
use Rattle.vch_text.specs.Reading.{◌>>=◌}
use Rattle.vch_report.specs.declared.report.Report.{Report}
use Rattle.vch_report.specs.declared.draft.Place.{Place}
use Rattle.vch_report.specs.declared.draft.Place.TheVariants as places
use Rattle.vch_report.specs.Faults.{IsReport, IsSame, lines_text, IsBegun, IsStuck, IsFault}
use Rattle.vch_report.specs.Reading.{Read, nothing, step_of, whole, is_done, is_empty, finish, read_lines, read_text, read_of}
use Rattle.vch_report.proofs.wholes.Same.{found, found_is, right, right_is, wrong, wrong_is}
use Rattle.vch_report.proofs.wholes.Runs.{go, go_append}
use Rattle.vch_report.proofs.words.Begun.{IsOne, split_lines, split_ones, lines_of, report_split, report_goes, whole_report, begun, begun_shorter}

-- ---- one line after the other

abbrev pub goes_on : ℕ → List (List ℕ) → List ℕ → Option Read → Result Read ℕ
goes_on n lines rest (Some e) = read_lines (n + 1) e lines rest
goes_on n lines rest None = Err n

pub lines_more : (n : ℕ) (d : Read) (l : List ℕ) (lines : List (List ℕ)) (rest : List ℕ)
    → read_lines n d (l ∷ lines) rest ≡ goes_on n lines rest (step_of d l)
unfolding read_lines
lines_more n d l lines rest = refl

pub lines_none : (n : ℕ) (d : Read) (rest : List ℕ) → read_lines n d [] rest ≡ finish n d rest
unfolding read_lines
lines_none n d rest = refl

-- ---- a whole report

record Finished (d : Read) (rest : List ℕ) (e : Read) : Type 0 where
  same : d ≡ e
  ended : rest ≡ []
  done : e.place ≡ places.Done

is_done_place : (p : Place) → is_done p ≡ true → p ≡ places.Done
is_done_place places.Title h = absurd cc
is_done_place places.Entries h = absurd cc
is_done_place places.Totals h = absurd cc
is_done_place places.End h = absurd cc
is_done_place places.Done h = refl

finished_by : (p : Place) (rest : List ℕ) (n : ℕ) (d e : Read) → d.place ≡ p
    → cond (is_done p && is_empty rest) (right d) (wrong n) ≡ Ok e → Finished d rest e
finished_by places.Title rest n d e at h = absurd cc
finished_by places.Entries rest n d e at h = absurd cc
finished_by places.Totals rest n d e at h = absurd cc
finished_by places.End rest n d e at h = absurd cc
finished_by places.Done [] n d e at h = let same = right_is d e h in record {
  same = same;
  ended = refl;
  done = ap (λ (x : Read). x.place) (sym same) ∙ at;
}
finished_by places.Done (c ∷ rest) n d e at h = absurd cc

finish_ok : (n : ℕ) (d e : Read) (rest : List ℕ) → finish n d rest ≡ Ok e → Finished d rest e
unfolding finish
finish_ok n d e rest h = finished_by d.place rest n d e refl h

-- lines that lead to a whole report
record Led (d : Read) (lines : List (List ℕ)) (rest : List ℕ) (e : Read) : Type 0 where
  goes : go d lines ≡ Some e
  ended : rest ≡ []
  done : e.place ≡ places.Done

led_more : (n : ℕ) (l : List ℕ) (lines : List (List ℕ)) (rest : List ℕ) (r : Option Read) (e : Read)
    → goes_on n lines rest r ≡ Ok e
    → ((m : ℕ) (d : Read) → read_lines m d lines rest ≡ Ok e → Led d lines rest e)
    → ((r >>= λ x. go x lines) ≡ Some e) × (rest ≡ []) × (e.place ≡ places.Done)
led_more n l lines rest (Some d) e h rec = let t = rec (n + 1) d h in (t.goes, t.ended, t.done)
led_more n l lines rest None e h rec = absurd cc

ok_led : (lines : List (List ℕ)) (n : ℕ) (d e : Read) (rest : List ℕ) → read_lines n d lines rest ≡ Ok e
    → Led d lines rest e
ok_led [] n d e rest h = let f = finish_ok n d e rest (sym (lines_none n d rest)
    ∙ h) in record { goes = ap Some f.same; ended = f.ended; done = f.done }
ok_led (l ∷ lines) n d e rest h =
    let t = led_more n l lines rest (step_of d l) e (sym (lines_more n d l lines rest)
    ∙ h) (λ m x g. ok_led lines m x e rest g) in
    record { goes = t.0; ended = t.1; done = t.2 }

again_more : (n : ℕ) (lines : List (List ℕ)) (r : Option Read) (e : Read) → (r >>= λ x. go x lines) ≡ Some e
    → ((m : ℕ) (d : Read) → go d lines ≡ Some e → read_lines m d lines [] ≡ Ok e) → goes_on n lines [] r ≡ Ok e
again_more n lines (Some d) e h rec = rec (n + 1) d h
again_more n lines None e h rec = absurd cc

finish_again : (n : ℕ) (r : Report) → finish n (whole r) [] ≡ Ok (whole r)
unfolding finish
finish_again n r = refl

led_ok : (lines : List (List ℕ)) (n : ℕ) (d : Read) (r : Report) → go d lines ≡ Some (whole r)
    → read_lines n d lines [] ≡ Ok (whole r)
led_ok [] n d r h = let same = found_is d (whole r) h in lines_none n d [] ∙ ap (λ (x : Read). finish n x []) same
    ∙ finish_again n r
led_ok (l ∷ lines) n d r h = lines_more n d l lines []
    ∙ again_more n lines (step_of d l) (whole r) h (λ m x g. led_ok lines m x r g)

pub read_again : (text : List ℕ) (r : Report) → IsReport text r → read_of text ≡ Ok (whole r)
unfolding read_of
read_again text r h = ap (λ (p : List (List ℕ) × List ℕ). read_text 1 nothing p) (report_split text r h)
    ∙ led_ok (lines_of r) 1 nothing r (report_goes r h.0)

abbrev pair : List (List ℕ) → List ℕ → List (List ℕ) × List ℕ
pair a b = (a, b)

pub read_report : (text : List ℕ) (r : Report) → read_of text ≡ Ok (whole r) → IsReport text r
unfolding read_of
read_report text r h =
    let t = ok_led (split_of text).0 1 nothing (whole r) (split_of text).1 h in
    whole_report text r (split_of text).0 (ap (pair (split_of text).0) t.ended) t.goes

-- ---- the first fault

-- a line that can't stand begins no report
no_step : (before : List (List ℕ)) (l : List ℕ) (ls : List (List ℕ)) (d e : Read) → go nothing before ≡ Some d
    → step_of d l ≡ None → go nothing ((before ++ l ∷ []) ++ ls) ≡ Some e → ⊥
no_step before l ls d e g s h =
    let a : go nothing ((before ++ l ∷ []) ++ ls) ≡ (go nothing before >>= λ x. go x ((l ∷ []) ++ ls)) = ap
    (λ x. go nothing x) (append_assoc before (l ∷ []) ls) ∙ go_append nothing before ((l ∷ []) ++ ls) in
    let b : (go nothing before >>= λ x. go x (l ∷ ls)) ≡ (step_of d l >>= λ x. go x ls) = ap
    (λ (r : Option Read). r >>= λ x. go x (l ∷ ls)) g in
    let c : (step_of d l >>= λ x. go x ls) ≡ None = ap (λ (r : Option Read). r >>= λ x. go x ls) s in
    let all : found e ≡ None = sym h ∙ a ∙ b ∙ c in
    cc

not_begun : (before : List (List ℕ)) (l : List ℕ) (d : Read) → AllByRecursion IsOne (before ++ l ∷ [])
    → go nothing before ≡ Some d → step_of d l ≡ None → IsBegun (before ++ l ∷ []) → ⊥
not_begun before l d ones g s b =
    let r = b.0 in
    let first = report_split (lines_text (before ++ l ∷ []) ++ b.1) r b.2 in
    let second = split_lines (before ++ l ∷ []) b.1 ones in
    let lines : lines_of r ≡ (before ++ l ∷ []) ++ (split_of b.1).0 = ap
    (λ (p : List (List ℕ) × List ℕ). p.0) (sym first ∙ second) in
    no_step before l (split_of b.1).0 d (whole r) g s (ap (λ x. go nothing x) (sym lines) ∙ report_goes r b.2.0)

no_finish : (text : List ℕ) (before : List (List ℕ)) (rest : List ℕ) (n k : ℕ) (d : Read)
    → split_of text ≡ pair before rest → go nothing before ≡ Some d → finish n d rest ≡ Err k → (r : Report)
    → IsReport text r → ⊥
no_finish text before rest n k d e g f r h =
    let s = report_split text r h in
    let lines : before ≡ lines_of r = ap (λ (p : List (List ℕ) × List ℕ). p.0) (sym e ∙ s) in
    let ends : rest ≡ [] = ap (λ (p : List (List ℕ) × List ℕ). p.1) (sym e ∙ s) in
    let same : d ≡ whole r = found_is d (whole r) (sym g ∙ ap (λ x. go nothing x) lines ∙ report_goes r h.0) in
    let good : finish n d rest ≡ Ok (whole r) = ap (λ (x : Read). finish n x rest) same
    ∙ ap (λ x. finish n (whole r) x) ends ∙ finish_again n r in
    cc

finish_number : (b : Bool) (n k : ℕ) (d : Read) → cond b (right d) (wrong n) ≡ Err k → n ≡ k
finish_number true n k d h = absurd cc
finish_number false n k d h = wrong_is n k h

finish_err : (n k : ℕ) (d : Read) (rest : List ℕ) → finish n d rest ≡ Err k → n ≡ k
unfolding finish
finish_err n k d rest h = finish_number (is_done d.place && is_empty rest) n k d h

ones_front : (a b : List (List ℕ)) → AllByRecursion IsOne (a ++ b) → AllByRecursion IsOne a
ones_front [] b h = tt
ones_front (l ∷ a) b h = (h.0, ones_front a b h.1)

-- what was read so far of a text
record SoFar (text : List ℕ) (before lines : List (List ℕ)) (rest : List ℕ) (n : ℕ) (d : Read) : Type 0 where
  parts : split_of text ≡ pair (before ++ lines) rest
  count : n ≡ length before + 1
  goes : go nothing before ≡ Some d

go_more : (before : List (List ℕ)) (l : List ℕ) (d e : Read) → go nothing before ≡ Some d → step_of d l ≡ Some e
    → go nothing (before ++ l ∷ []) ≡ Some e
go_more before l d e g s = go_append nothing before (l ∷ []) ∙ ap (λ (r : Option Read). r >>= λ x. go x (l ∷ [])) g
    ∙ ap (λ (r : Option Read). r >>= λ x. go x []) s

next_far : (text : List ℕ) (before : List (List ℕ)) (l : List ℕ) (lines : List (List ℕ)) (rest : List ℕ) (n : ℕ)
    (d e : Read) → SoFar text before (l ∷ lines) rest n d → step_of d l ≡ Some e
    → SoFar text (before ++ l ∷ []) lines rest (n + 1) e
next_far text before l lines rest n d e f s = record {
  parts = f.parts ∙ ap (λ x. pair x rest) (sym (append_assoc before (l ∷ []) lines));
  count = let k = f.count in omega (arith, length-append before (l ∷ []));
  goes = go_more before l d e f.goes s;
}

stop_far : (text : List ℕ) (before : List (List ℕ)) (l : List ℕ) (lines : List (List ℕ)) (rest : List ℕ) (n k : ℕ)
    (d : Read) → SoFar text before (l ∷ lines) rest n d → step_of d l ≡ None → wrong n ≡ wrong k → IsFault text k
stop_far text before l lines rest n k d f s e =
    let lines_are : (split_of text).0 ≡ before ++ l ∷ lines = ap (λ (p : List (List ℕ) × List ℕ). p.0) f.parts in
    let all : AllByRecursion IsOne (before ++ l ∷ lines) = subst
    (λ (ls : List (List ℕ)). AllByRecursion IsOne ls) lines_are (split_ones text) in
    let ones : AllByRecursion IsOne (before ++ l ∷ []) = ones_front (before ++ l ∷ []) lines (subst
    (λ (ls : List (List ℕ)). AllByRecursion IsOne ls) (sym (append_assoc before (l ∷ []) lines)) all) in
    record {
      before = before;
      after = l ∷ lines;
      lines = lines_are;
      number = sym (wrong_is n k e)
          ∙ f.count;
      begun = begun before d f.goes;
      stuck = λ b. not_begun before l d ones f.goes s b;
    }

fault_more : (text : List ℕ) (before : List (List ℕ)) (l : List ℕ) (lines : List (List ℕ)) (rest : List ℕ) (n k : ℕ)
    (d : Read) → SoFar text before (l ∷ lines) rest n d
    → (r : Option Read) → step_of d l ≡ r → goes_on n lines rest r ≡ Err k → ((e : Read)
    → SoFar text (before ++ l ∷ []) lines rest (n + 1) e → read_lines (n + 1) e lines rest ≡ Err k
    → IsFault text k) → IsFault text k
fault_more text before l lines rest n k d f (Some e) s h rec = rec e (next_far text before l lines rest n d e f s) h
fault_more text before l lines rest n k d f None s h rec = stop_far text before l lines rest n k d f s h

fault_told : (text : List ℕ) (before lines : List (List ℕ)) (rest : List ℕ) (n k : ℕ) (d : Read)
    → SoFar text before lines rest n d → read_lines n d lines rest ≡ Err k → IsFault text k
fault_told text before [] rest n k d f h =
    let ends = sym (lines_none n d rest) ∙ h in
    let parts : split_of text ≡ pair before rest = f.parts ∙ ap (λ x. pair x rest) (append-nil before) in
    record {
      before = before;
      after = [];
      lines = ap (λ (p : List (List ℕ) × List ℕ). p.0) f.parts;
      number = sym (finish_err n k d rest ends) ∙ f.count;
      begun = begun before d f.goes;
      stuck = no_finish text before rest n k d parts f.goes ends;
    }
fault_told text before (l ∷ lines) rest n k d f h =
    fault_more text before l lines rest n k d f (step_of d l) refl (sym (lines_more n d l lines rest)
    ∙ h) (λ e g t. fault_told text (before ++ l ∷ []) lines rest (n + 1) k e g t)

pub read_fault : (text : List ℕ) (k : ℕ) → read_of text ≡ Err k → IsFault text k
unfolding read_of
read_fault text k h = fault_told text [] (split_of text).0 (split_of text).1 1 k nothing (record {
  parts = refl;
  count = refl;
  goes = refl;
}) h

-- ---- one fault, and none beside a report

pub never_both : (text : List ℕ) (r : Report) (line : ℕ) → IsReport text r → IsFault text line → ⊥
never_both text r line h f = by_after f.after f.stuck f.lines
  where
    by_after : (after : List (List ℕ)) → IsStuck text f.before after → (split_of text).0 ≡ f.before ++ after → ⊥
    by_after [] s e = s r h
    by_after (l ∷ after) s e =
        let lines : lines_of r ≡ f.before ++ l ∷ after = ap
        (λ (p : List (List ℕ) × List ℕ). p.0) (sym (report_split text r h)) ∙ e in
        let g : go nothing (f.before ++ l ∷ after) ≡ Some (whole r) = ap (λ x. go nothing x) (sym lines)
        ∙ report_goes r h.0 in
        s (begun_shorter f.before l after (begun (f.before ++ l ∷ after) (whole r) g))

-- two ways to cut a list
data Cut (a b c d : List (List ℕ)) : Type 0 where
  Same : a ≡ c → Cut a b c d
  Sooner : (x : List ℕ) (xs : List (List ℕ)) → c ≡ a ++ x ∷ xs → b ≡ x ∷ (xs ++ d) → Cut a b c d
  Later : (x : List ℕ) (xs : List (List ℕ)) → a ≡ c ++ x ∷ xs → d ≡ x ∷ (xs ++ b) → Cut a b c d

cut_more : (x y : List ℕ) (a b c d : List (List ℕ)) → x ≡ y → Cut a b c d → Cut (x ∷ a) b (y ∷ c) d
cut_more x y a b c d e (Same h) = Same cc
cut_more x y a b c d e (Sooner z zs h g) = Sooner z zs (cc) g
cut_more x y a b c d e (Later z zs h g) = Later z zs (cc) g

two_cuts : (a b c d : List (List ℕ)) → a ++ b ≡ c ++ d → Cut a b c d
two_cuts [] b [] d e = Same refl
two_cuts [] b (y ∷ c) d e = Sooner y c refl e
two_cuts (x ∷ a) b [] d e = Later x a refl (sym e)
two_cuts (x ∷ a) b (y ∷ c) d e = let head : x ≡ y = cc in let tail : a ++ b ≡ c ++ d = cc in
    cut_more x y a b c d head (two_cuts a b c d tail)

sooner : (text : List ℕ) (a b c : List (List ℕ)) (x : List ℕ) (xs d : List (List ℕ)) → IsStuck text a b → IsBegun c
    → c ≡ a ++ x ∷ xs → b ≡ x ∷ (xs ++ d) → ⊥
sooner text a b c x xs d s g e h = let stuck : IsStuck text a (x ∷ (xs ++ d)) = subst
    (λ (y : List (List ℕ)). IsStuck text a y) h s in
    stuck (begun_shorter a x xs (subst (λ (y : List (List ℕ)). IsBegun y) e g))

pub one_fault : (text : List ℕ) (n k : ℕ) → IsFault text n → IsFault text k → n ≡ k
one_fault text n k f g = by_cut (two_cuts f.before f.after g.before g.after (sym f.lines ∙ g.lines))
  where
    by_cut : Cut f.before f.after g.before g.after → n ≡ k
    by_cut (Same e) = f.number ∙ ap (λ (l : List (List ℕ)). length l + 1) e ∙ sym g.number
    by_cut (Sooner x xs e h) = absurd (sooner text f.before f.after g.before x xs g.after f.stuck g.begun e h)
    by_cut (Later x xs e h) = absurd (sooner text g.before g.after f.before x xs f.after g.stuck f.begun e h)

-- ---- a text is a report's or has a fault

report_at : Read → Report
report_at d = record {
  version = d.version;
  history = record { entries = d.entries; spare = 0 };
  totals = d.totals;
  vouchers = d.vouchers;
  values = d.values;
}

at_end : (d : Read) → d.place ≡ places.Done → d ≡ whole (report_at d)
unfolding report_at
at_end d e = ap (λ (p : Place). record d { place = p }) e

ok_report : (text : List ℕ) (d : Read) → read_of text ≡ Ok d → IsReport text (report_at d)
unfolding read_of
ok_report text d h =
    let t = ok_led (split_of text).0 1 nothing d (split_of text).1 h in
    read_report text (report_at d) (h ∙ ap right (at_end d t.done))

by_read : (text : List ℕ) (r : Result Read ℕ) → read_of text ≡ r
    → ((report : Report) × IsReport text report) ⊎ ((line : ℕ) × IsFault text line)
by_read text (Ok d) e = inl (report_at d, ok_report text d e)
by_read text (Err k) e = inr (k, read_fault text k e)

pub some_answer : (text : List ℕ) → ((report : Report) × IsReport text report) ⊎ ((line : ℕ) × IsFault text line)
some_answer text = by_read text (read_of text) refl

fault_by : (text : List ℕ) (n : ℕ) (r : Result Read ℕ) → read_of text ≡ r → IsFault text n → r ≡ Err n
fault_by text n (Ok d) e f = absurd (never_both text (report_at d) n (ok_report text d e) f)
fault_by text n (Err k) e f = ap wrong (one_fault text k n (read_fault text k e) f)

pub fault_again : (text : List ℕ) (n : ℕ) → IsFault text n → read_of text ≡ Err n
fault_again text n f = fault_by text n (read_of text) refl f

pub whole_same : (a b : Report) → whole a ≡ whole b → IsSame a b
whole_same a b e = record {
  version = ap (λ (x : Read). x.version) e;
  entries = ap (λ (x : Read). x.entries) e;
  totals = ap (λ (x : Read). x.totals) e;
  vouchers = ap (λ (x : Read). x.vouchers) e;
  values = ap (λ (x : Read). x.values) e;
}

pub one_report : (text : List ℕ) (a b : Report) → IsReport text a → IsReport text b → IsSame a b
one_report text a b h g = whole_same a b (right_is (whole a) (whole b) (sym (read_again text a h)
    ∙ read_again text b g))
