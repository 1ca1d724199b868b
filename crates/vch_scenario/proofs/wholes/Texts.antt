-- The text of items, one more at a time.
use Rattle.std.proofs.Common.{◌≡◌, ℕ, zero, suc, ◌+◌, List, [], ◌∷◌, ◌++◌, length, map, slice_index_or, take, refl, sym, ap, ◌∙◌, arith, append_assoc, append-nil, Some, None, codes}
use Rattle.std.specs.Fmt.{decimal}
use Rattle.vch_model.specs.Text.{newline}
use Rattle.vch_model.specs.declared.lists.Scenario.{Scenario}
use Rattle.std.specs.List.{slice_get}
use Rattle.vch_model.specs.declared.call.Line.{Line}
use Rattle.vch_base.specs.declared.flags.Flags.{Flags}
use Rattle.vch_model.specs.Grammar.{Item, Task, Phase, Calls, End}
use Rattle.vch_model.specs.Scenarios.{task_items, line_items, phase_items}
use Rattle.vch_model.specs.Canonical.{item_line, items_text, shown_queue, Canon}
use Rattle.vch_base.specs.declared.limits.TheConstants.{USUAL_QUEUE}

pub text_append : (xs ys : List Item) → items_text (xs ++ ys) ≡ items_text xs ++ items_text ys
text_append [] ys = refl
text_append (x ∷ xs) ys = ap (λ l. item_line x ++ l) (text_append xs ys) ∙ sym (append_assoc (item_line x) (items_text xs) (items_text ys))

pub line_next : (ls : List Line) (i : ℕ) (l : Line) → slice_get ls i ≡ Some l → items_text (line_items (take (i + 1) ls)) ≡ items_text (line_items (take i ls)) ++ item_line (Calls l)
line_next [] i l e = absurd cc
line_next (m ∷ ls) zero l e = let same : m ≡ l = cc in append-nil (item_line (Calls m)) ∙ ap (λ x. item_line (Calls x)) same
line_next (m ∷ ls) (suc i) l e =
    let n : suc i + 1 ≡ suc (i + 1) = omega arith in
    rw n (ap (λ x. item_line (Calls m) ++ x) (line_next ls i l e) ∙ sym (append_assoc (item_line (Calls m)) (items_text (line_items (take i ls))) (item_line (Calls l))))

-- the text of one task more
abbrev pub tasks_text : ℕ → List Flags → List ℕ → List ℕ
tasks_text t fs limits = items_text (task_items t fs (map shown_queue limits))

abbrev pub task_text : ℕ → Flags → ℕ → List ℕ
task_text t f limit = item_line (Task t f (shown_queue limit))

usual_next : (t : ℕ) (g f : Flags) → g ≡ f → item_line (Task t g None) ++ [] ≡ task_text (t + 0) f USUAL_QUEUE
usual_next t g f same = let n : t + 0 ≡ t = omega arith in append-nil (item_line (Task t g None)) ∙ rw (n, same) refl

limit_next : (t : ℕ) (g f : Flags) (limit : ℕ) → g ≡ f → task_text t g limit ++ [] ≡ task_text (t + 0) f limit
limit_next t g f limit same = let n : t + 0 ≡ t = omega arith in append-nil (task_text t g limit) ∙ rw (n, same) refl

task_later : (line before more after : List ℕ) → more ≡ before ++ after → line ++ more ≡ (line ++ before) ++ after
task_later line before more after e = ap (λ x. line ++ x) e ∙ sym (append_assoc line before after)

pub task_next : (fs : List Flags) (limits : List ℕ) (t i : ℕ) (f : Flags) → slice_get fs i ≡ Some f
    → tasks_text t (take (i + 1) fs) limits ≡ tasks_text t (take i fs) limits ++ task_text (t + i) f (slice_index_or limits i USUAL_QUEUE)
task_next [] limits t i f e = absurd cc
task_next (g ∷ fs) [] t zero f e = let same : g ≡ f = cc in usual_next t g f same
task_next (g ∷ fs) (l ∷ ls) t zero f e = let same : g ≡ f = cc in limit_next t g f l same
task_next (g ∷ fs) [] t (suc i) f e =
    let n : suc i + 1 ≡ suc (i + 1) = omega arith in
    let k : t + suc i ≡ t + 1 + i = omega arith in
    rw (n, k) (task_later (item_line (Task t g None)) (tasks_text (t + 1) (take i fs) []) (tasks_text (t + 1) (take (i + 1) fs) []) _ (task_next fs [] (t + 1) i f e))
task_next (g ∷ fs) (l ∷ ls) t (suc i) f e =
    let n : suc i + 1 ≡ suc (i + 1) = omega arith in
    let k : t + suc i ≡ t + 1 + i = omega arith in
    rw (n, k) (task_later (task_text t g l) (tasks_text (t + 1) (take i fs) ls) (tasks_text (t + 1) (take (i + 1) fs) ls) _ (task_next fs ls (t + 1) i f e))

phase_text : (p : List Line) (ps : List (List Line)) → items_text (phase_items (p ∷ ps)) ≡ (item_line Phase ++ items_text (line_items p)) ++ items_text (phase_items ps)
phase_text p ps = ap (λ x. item_line Phase ++ x) (text_append (line_items p) (phase_items ps)) ∙ sym (append_assoc (item_line Phase) (items_text (line_items p)) (items_text (phase_items ps)))

pub phase_next : (ps : List (List Line)) (i : ℕ) (p : List Line) → slice_get ps i ≡ Some p → items_text (phase_items (take (i + 1) ps)) ≡ items_text (phase_items (take i ps)) ++ (item_line Phase ++ items_text (line_items p))
phase_next [] i p e = absurd cc
phase_next (q ∷ ps) zero p e = let same : q ≡ p = cc in phase_text q [] ∙ append-nil (item_line Phase ++ items_text (line_items q)) ∙ ap (λ x. item_line Phase ++ items_text (line_items x)) same
phase_next (q ∷ ps) (suc i) p e =
    let n : suc i + 1 ≡ suc (i + 1) = omega arith in
    rw n (phase_text q (take (i + 1) ps) ∙ ap (λ x. (item_line Phase ++ items_text (line_items q)) ++ x) (phase_next ps i p e)
    ∙ sym (append_assoc (item_line Phase ++ items_text (line_items q)) (items_text (phase_items (take i ps))) (item_line Phase ++ items_text (line_items p)))
    ∙ ap (λ x. x ++ (item_line Phase ++ items_text (line_items p))) (sym (phase_text q (take i ps))))

pub pushed : (old x y z mid new : List ℕ) → mid ≡ old ++ x → new ≡ mid ++ y → z ≡ x ++ y → new ≡ old ++ z
pushed old x y z mid new m n e = n ∙ ap (λ l. l ++ y) m ∙ append_assoc old x y ∙ ap (λ l. old ++ l) (sym e)

tail_text : (ts : List Item) (ps : List (List Line)) → items_text (ts ++ (phase_items ps ++ End ∷ [])) ≡ items_text ts ++ (items_text (phase_items ps) ++ codes "end\n")
tail_text ts ps = text_append ts (phase_items ps ++ End ∷ []) ∙ ap (λ l. items_text ts ++ l) (text_append (phase_items ps) (End ∷ []))

regroup : (a s v n w d t p e : List ℕ) → (((((((a ++ s) ++ v) ++ (n ++ (w ++ s))) ++ d) ++ n) ++ t) ++ p) ++ e ≡ ((a ++ (s ++ (v ++ []))) ++ n) ++ (((w ++ (s ++ (d ++ []))) ++ n) ++ (t ++ (p ++ e)))
regroup a s v n w d t p e = simp (append_assoc, append-nil)

pub written : (sc : Scenario) (o0 o1 o2 o3 o4 o5 o6 o7 o8 : List ℕ) → o0 ≡ [] → o1 ≡ o0 ++ codes "vouch " → o2 ≡ o1 ++ decimal sc.version → o3 ≡ o2 ++ codes "\ntasks " → o4 ≡ o3 ++ decimal (length sc.flags) → o5 ≡ o4 ++ newline
    → o6 ≡ o5 ++ tasks_text 1 sc.flags sc.queues → o7 ≡ o6 ++ items_text (phase_items sc.phases) → o8 ≡ o7 ++ codes "end\n" → o8 ≡ Canon sc
unfolding Canon
written sc o0 o1 o2 o3 o4 o5 o6 o7 o8 h0 h1 h2 h3 h4 h5 h6 h7 h8 =
    let v = decimal sc.version in
    let d = decimal (length sc.flags) in
    let ts = task_items 1 sc.flags (map shown_queue sc.queues) in
    let t = items_text ts in
    let p = items_text (phase_items sc.phases) in
    let a : o2 ≡ codes "vouch " ++ v = h2 ∙ ap (λ l. l ++ v) (h1 ∙ ap (λ l. l ++ codes "vouch ") h0) in
    let b : o5 ≡ (((codes "vouch " ++ v) ++ codes "\ntasks ") ++ d) ++ newline = h5 ∙ ap (λ l. l ++ newline) (h4 ∙ ap (λ l. l ++ d) (h3 ∙ ap (λ l. l ++ codes "\ntasks ") a)) in
    let all : o8 ≡ ((((((codes "vouch " ++ v) ++ codes "\ntasks ") ++ d) ++ newline) ++ t) ++ p) ++ codes "end\n" = h8 ∙ ap (λ l. l ++ codes "end\n") (h7 ∙ ap (λ l. l ++ p) (h6 ∙ ap (λ l. l ++ t) b)) in
    all ∙ regroup (codes "vouch") (32 ∷ []) v newline (codes "tasks") d t p (codes "end\n")
    ∙ ap (λ l. ((codes "vouch" ++ (32 ∷ (v ++ []))) ++ newline) ++ (((codes "tasks" ++ (32 ∷ (d ++ []))) ++ newline) ++ l)) (sym (tail_text ts sc.phases))
