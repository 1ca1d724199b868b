-- The line of a task, both ways.
use Rattle.std.proofs.Common.{◌≡◌, ◌≢◌, ℕ, ◌<◌, ◌≤◌, min, Bool, true, false, cond, eqb, List, [], ◌∷◌, Option, Some, None, Result, Ok, Err, refl, sym, ap, subst, ◌∙◌, arith, ◌⊎◌, inl, inr, codes}
use Rattle.std.proofs.lemmas.Grind.{common_steps}
use Rattle.vch_base.specs.declared.flags.Flags.{Flags}
use Rattle.vch_scenario.specs.declared.fault.Why.{Why}
use Rattle.vch_scenario.specs.declared.fault.Why.TheVariants.{Form, Range}
use Rattle.vch_text.specs.Words.{is_word, front_of, word_at}
use Rattle.vch_text.specs.Numbers.{number_at, one_of}
use Rattle.vch_text.proofs.CallerLemmas.{word_true, word_same, Follows, front_word, front_again, spelled_follows, OneRead, NumberAt}
use Rattle.vch_text.proofs.CallerLemmas as texts
use Rattle.vch_scenario.specs.Reading.{◌>>=◌, formed}
use Rattle.vch_model.specs.Grammar.{top, Piece, Text, Number, Digits, StartsWithLine, AreSpelled, flag_pieces, queue_pieces, IsLine, Task}
use Rattle.vch_scenario.specs.Calls.{word_is, flag_by, flag_at, up_to, written_queue, queue_of, tail_of, limit_of, number_is, task_of}
use Rattle.vch_scenario.specs.declared.task.TaskLine.{TaskLine}
use Rattle.vch_scenario.specs.Faults.{limit_by}
use Rattle.vch_scenario.specs.Faults as Read
use Rattle.vch_base.specs.declared.limits.TheConstants.{LARGEST_QUEUE}
use Rattle.vch_scenario.proofs.drafts.Told.{Told, told_bind, told_test, told_map}
use Rattle.vch_scenario.proofs.drafts.Formed.{word_told, word_again, number_at_told, number_at_again, one_told, one_again}
use Rattle.vch_scenario.proofs.lines.ItemLines.{line_begins, line_front, is_told, is_again, same_number, other_number, up_to_told, by_bool, up_to_good, up_to_bad}
use Rattle.std.proofs.lemmas.Bool.{cases_lt}

-- ---- the flags of a task

-- the words behind the number of a task
abbrev pub tail_pieces : Flags → Option ℕ → List Piece
tail_pieces f queue = flag_pieces f.donor (codes "donor") (flag_pieces f.receiver (codes "receiver") (queue_pieces queue))

-- the pieces are spelled once the flag's word is gone, where it is there
abbrev chosen : Bool → List ℕ → List ℕ → Bool × List ℕ
chosen b more rest = cond b (true, more) (false, rest)

chosen_told : (text rest w more : List ℕ) (ps : List Piece) (b : Bool) → is_word w text ≡ b → StartsWithLine rest w more → AreSpelled (chosen b more rest).1 ps → AreSpelled rest (flag_pieces (chosen b more rest).0 text ps)
chosen_told text rest w more ps true e b h = (w, more, b, word_true w text e, h)
chosen_told text rest w more ps false e b h = h

flag_by_told : (text rest : List ℕ) (ps : List Piece) (r : Option (List ℕ × List ℕ)) → texts.Told (λ x. StartsWithLine rest x.0 x.1) r → AreSpelled (flag_by text rest r).1 ps
    → AreSpelled rest (flag_pieces (flag_by text rest r).0 text ps)
flag_by_told text rest ps None b h = h
flag_by_told text rest ps (Some w) b h = chosen_told text rest w.0 w.1 ps (is_word w.0 text) refl b h

flag_told : (text rest : List ℕ) (ps : List Piece) → AreSpelled (flag_at text rest).1 ps → AreSpelled rest (flag_pieces (flag_at text rest).0 text ps)
unfolding flag_at
flag_told text rest ps h = flag_by_told text rest ps (word_at rest) (texts.word_told rest) h

-- the pieces don't begin with the text
abbrev IsOther : List ℕ → List Piece → Type 0
IsOther text [] = Unit {0}
IsOther text (Text t ∷ ps) = is_word t text ≡ false
IsOther text (p ∷ ps) = ⊥

flag_found : (text rest : List ℕ) (ps : List Piece) → (h : AreSpelled rest (Text text ∷ ps)) → flag_at text rest ≡ (true, h.1)
unfolding flag_at
flag_found text rest ps h = rw (texts.word_again rest h.0 h.1 h.2 (spelled_follows h.1 ps h.4), word_same h.0 text h.3) refl

flag_none : (text rest : List ℕ) (ps : List Piece) → IsOther text ps → AreSpelled rest ps → flag_at text rest ≡ (false, rest)
unfolding flag_at word_at
flag_none text rest [] o h = ap (λ (l : List ℕ). flag_by text l (word_at l)) h ∙ ap (λ (l : List ℕ). (false, l)) (sym h)
flag_none text rest (Text t ∷ ps) o h =
    let other : is_word h.0 text ≡ false = ap (λ (w : List ℕ). is_word w text) h.3 ∙ o in
    rw (texts.word_again rest h.0 h.1 h.2 (spelled_follows h.1 ps h.4), other) refl
flag_none text rest (Number n ∷ ps) o h = absurd o
flag_none text rest (Digits bytes ∷ ps) o h = absurd o

-- ---- the limit of a queue

written_told : (Q : Why → Type 0) → Q Form → (rest : List ℕ) → Told Q (λ k. (q : ℕ) × AreSpelled rest (queue_pieces (Some q)) × (k ≡ min q top)) (written_queue rest)
unfolding written_queue
written_told Q form rest =
    let S : ℕ → Type 0 = λ k. (q : ℕ) × AreSpelled rest (queue_pieces (Some q)) × (k ≡ min q top) in
    told_bind Q (λ x. StartsWithLine rest x.0 x.1) S (formed (word_at rest)) _ (word_told Q form rest)
    (λ w b. told_bind Q (λ u. w.0 ≡ codes "queue") S (word_is (codes "queue") w.0) _ (is_told Q form (codes "queue") w.0)
    (λ u e. told_bind Q (λ k. OneRead top w.1 k) S (formed (one_of top w.1)) _ (one_told Q form w.1)
    (λ k r. (r.n, (w.0, w.1, b, e, r.spelled), r.read))))

written_again : (rest : List ℕ) (q : ℕ) → AreSpelled rest (queue_pieces (Some q)) → written_queue rest ≡ Ok (min q top)
unfolding written_queue
written_again rest q h =
    rw (word_again rest h.0 h.1 h.2 (spelled_follows h.1 (Number q ∷ []) h.4), is_again (codes "queue") h.0 h.3, one_again h.1 q h.4) refl

-- what a text of the version may write of a queue
abbrev pub IsWrittenIn : ℕ → Option ℕ → Type 0
IsWrittenIn version None = Unit {0}
IsWrittenIn version (Some q) = version ≡ 2

-- a limit as it was read: the top stands for each that is larger
abbrev pub capped : Option ℕ → Option ℕ
capped None = None
capped (Some q) = Some (min q top)

abbrev pub IsTail : ℕ → List ℕ → Option ℕ → Type 0
IsTail version rest k = (queue : Option ℕ) × AreSpelled rest (queue_pieces queue) × IsWrittenIn version queue × (k ≡ capped queue)

queue_told : (Q : Why → Type 0) → Q Form → (version : ℕ) (rest : List ℕ) → Told Q (IsTail version rest) (queue_of version rest)
queue_told Q form version [] = (None, refl, tt, refl)
queue_told Q form version (c ∷ cs) =
    told_test Q (IsTail version (c ∷ cs)) (eqb version 2) (written_queue (c ∷ cs) >>= λ n. Ok (Some n)) (Err Form)
    (λ t. let two : version ≡ 2 = grind (arith, common_steps) in
    told_bind Q (λ k. (q : ℕ) × AreSpelled (c ∷ cs) (queue_pieces (Some q)) × (k ≡ min q top)) (IsTail version (c ∷ cs)) (written_queue (c ∷ cs)) (λ n. Ok (Some n)) (written_told Q form (c ∷ cs))
    (λ k h. (Some h.0, h.1, two, ap (λ (n : ℕ). Some n) h.2)))
    (λ f. form)

queue_again : (version : ℕ) (rest : List ℕ) (queue : Option ℕ) → AreSpelled rest (queue_pieces queue) → IsWrittenIn version queue → queue_of version rest ≡ Ok (capped queue)
queue_again version [] None h i = refl
queue_again version (c ∷ cs) None h i = absurd cc
queue_again version [] (Some q) h i = let e = h.2.parts in absurd cc
queue_again version (c ∷ cs) (Some q) h i =
    let two : eqb version 2 ≡ true = ap (λ (n : ℕ). eqb n 2) i in
    rw (two, written_again (c ∷ cs) q h) refl

-- ---- what stands behind the number of a task

abbrev pub TailTold : ℕ → List ℕ → Flags × Option ℕ → Type 0
TailTold version rest x = (queue : Option ℕ) × AreSpelled rest (tail_pieces x.0 queue) × IsWrittenIn version queue × (x.1 ≡ capped queue)

tail_told : (Q : Why → Type 0) → Q Form → (version : ℕ) (rest : List ℕ) → Told Q (TailTold version rest) (tail_of version rest)
unfolding tail_of
tail_told Q form version rest =
    let a = flag_at (codes "donor") rest in
    let b = flag_at (codes "receiver") a.1 in
    told_bind Q (IsTail version b.1) (TailTold version rest) (queue_of version b.1) _ (queue_told Q form version b.1)
    (λ k h. (h.0, flag_told (codes "donor") rest (flag_pieces b.0 (codes "receiver") (queue_pieces h.0)) (flag_told (codes "receiver") a.1 (queue_pieces h.0) h.1), h.2, h.3))

-- a flag that is spelled is found, and what is behind it is left
flag_again : (text rest : List ℕ) (b : Bool) (ps : List Piece) → IsOther text ps → AreSpelled rest (flag_pieces b text ps) → (more : List ℕ) × (flag_at text rest ≡ (b, more)) × AreSpelled more ps
flag_again text rest true ps o h = (h.1, flag_found text rest ps h, h.4)
flag_again text rest false ps o h = (rest, flag_none text rest ps o h, h)

queue_no_receiver : (queue : Option ℕ) → IsOther (codes "receiver") (queue_pieces queue)
unfolding is_word
queue_no_receiver None = tt
queue_no_receiver (Some q) = refl

tail_no_donor : (r : Bool) (queue : Option ℕ) → IsOther (codes "donor") (flag_pieces r (codes "receiver") (queue_pieces queue))
unfolding is_word
tail_no_donor true queue = refl
tail_no_donor false None = tt
tail_no_donor false (Some q) = refl

tail_again : (version : ℕ) (rest : List ℕ) (f : Flags) (queue : Option ℕ) → AreSpelled rest (tail_pieces f queue) → IsWrittenIn version queue → tail_of version rest ≡ Ok (f, capped queue)
unfolding tail_of
tail_again version rest f queue h i =
    let a = flag_again (codes "donor") rest f.donor (flag_pieces f.receiver (codes "receiver") (queue_pieces queue)) (tail_no_donor f.receiver queue) h in
    let b = flag_again (codes "receiver") a.0 f.receiver (queue_pieces queue) (queue_no_receiver queue) a.2 in
    rw (a.1, b.1, queue_again version b.0 queue b.2 i) refl

-- ---- ranges of a task line

abbrev pub IsQueueRanged : Option ℕ → Type 0
IsQueueRanged queue = Read.IsQueueRanged queue

limit_told : (Q : Why → Type 0) (k queue : Option ℕ) → k ≡ capped queue → ((IsQueueRanged queue → ⊥) → Q Range) → Told Q (λ x. (x ≡ limit_by queue) × IsQueueRanged queue) (limit_of k)
unfolding limit_of
limit_told Q k None e range = rw e (refl, tt)
limit_told Q k (Some q) e range =
    let S : ℕ → Type 0 = λ x. (x ≡ limit_by (Some q)) × IsQueueRanged (Some q) in
    let R : ℕ → Type 0 = λ x. (x ≡ q) × (0 < q) × (q ≤ LARGEST_QUEUE) in
    let told : Told Q S (limit_of (capped (Some q))) = told_map Q R S (up_to LARGEST_QUEUE (min q top)) (λ x h. (h.0, (h.1, h.2))) (up_to_told Q LARGEST_QUEUE (min q top) q (omega arith) refl range) in
    subst (λ (x : Option ℕ). Told Q S (limit_of x)) (sym e) told

same_told : (Q : Why → Type 0) (number k n : ℕ) → number < top → k ≡ min n top → ((n ≡ number → ⊥) → Q Range) → Told Q (λ u. n ≡ number) (number_is number k)
unfolding number_is
same_told Q number k n small e range =
    told_test Q (λ u. n ≡ number) (eqb k number) (Ok tt) (Err Range) (λ y. same_number k number n small e y) (λ z. range (other_number k number n small e z))

-- ---- a task

-- the numbers of a task line that are as they must be
abbrev pub IsTaskRanged : ℕ → ℕ → Option ℕ → Type 0
IsTaskRanged number t queue = (t ≡ number) × IsQueueRanged queue

abbrev pub NoTask : ℕ → ℕ → List ℕ → Why → Type 0
NoTask version number line why =
    (why ≡ Form) ⊎ ((why ≡ Range) × (t : ℕ) × (f : Flags) × (queue : Option ℕ) × IsLine line (Task t f queue) × IsWrittenIn version queue × (IsTaskRanged number t queue → ⊥))

abbrev pub IsTask : ℕ → ℕ → List ℕ → TaskLine → Type 0
IsTask version number line x =
    (queue : Option ℕ) × IsLine line (Task number x.flags queue) × IsWrittenIn version queue × IsQueueRanged queue × (x.queue ≡ limit_by queue)

pub task_told : (version number : ℕ) → number < top → (line : List ℕ) → Told (NoTask version number line) (IsTask version number line) (task_of version number line)
unfolding task_of
task_told version number small line =
    let Q : Why → Type 0 = NoTask version number line in
    let S : TaskLine → Type 0 = IsTask version number line in
    let f = front_of 32 line in
    told_bind Q (λ u. f.0 ≡ codes "task") S (word_is (codes "task") f.0) _ (is_told Q (inl refl) (codes "task") f.0)
    (λ u e. told_bind Q (λ x. NumberAt top f.1 x.0 x.1) S (formed (number_at top f.1)) _ (number_at_told Q (inl refl) f.1)
    (λ t n. told_bind Q (TailTold version t.1) S (tail_of version t.1) _ (tail_told Q (inl refl) version t.1)
    (λ g h.
    let spelled : IsLine line (Task n.is.number g.0 h.0) = (f.0, f.1, line_begins line, e, (n.word, t.1, n.begins, n.is.spelled, h.1)) in
    told_bind Q (λ u. n.is.number ≡ number) S (number_is number t.0) _ (same_told Q number t.0 n.is.number small n.is.read (λ other. inr (refl, n.is.number, g.0, h.0, spelled, h.2, λ r. other r.0)))
    (λ v same. told_bind Q (λ x. (x ≡ limit_by h.0) × IsQueueRanged h.0) S (limit_of g.1) _ (limit_told Q g.1 h.0 h.3 (λ wide. inr (refl, n.is.number, g.0, h.0, spelled, h.2, λ r. wide r.1)))
    (λ limit k. (h.0, subst (λ (m : ℕ). IsLine line (Task m g.0 h.0)) same spelled, h.2, k.1, k.0))))))

-- what is read of a task line that is spelled
abbrev pub task_read : ℕ → ℕ → Flags → Option ℕ → Result TaskLine Why
task_read number t f queue = number_is number (min t top) >>= λ u. limit_of (capped queue) >>= λ limit. Ok (record { flags = f; queue = limit })

pub task_again : (version number : ℕ) (line : List ℕ) (t : ℕ) (f : Flags) (queue : Option ℕ) → IsLine line (Task t f queue) → IsWrittenIn version queue → task_of version number line ≡ task_read number t f queue
unfolding task_of
task_again version number line t f queue h i =
    let g = h.4 in
    rw (line_front line h.0 h.1 h.2 (spelled_follows h.1 (Number t ∷ tail_pieces f queue) g), is_again (codes "task") h.0 h.3, number_at_again h.1 g.0 g.1 t g.2 g.3 (spelled_follows g.1 (tail_pieces f queue) g.4), tail_again version g.1 f queue g.4 i) refl

-- ---- what is read of the numbers of a task line

range_cases : (n most : ℕ) → ((0 < n) × (n ≤ most)) ⊎ ((0 < n) × (n ≤ most) → ⊥)
range_cases n most =
    elim (cases_lt 0 n) [
      | inl a ↦ elim (cases_lt most n) [ inl b ↦ inr (λ r. let c = r.1 in omega arith) | inr b ↦ inl (a, omega arith) ]
      | inr a ↦ inr (λ r. let c = r.0 in omega arith)
    ]

queue_cases : (queue : Option ℕ) → IsQueueRanged queue ⊎ (IsQueueRanged queue → ⊥)
queue_cases None = inl tt
queue_cases (Some q) = range_cases q LARGEST_QUEUE

pub limit_good : (queue : Option ℕ) → IsQueueRanged queue → limit_of (capped queue) ≡ Ok (limit_by queue)
unfolding limit_of
limit_good None r = refl
limit_good (Some q) r = up_to_good LARGEST_QUEUE q (omega arith) r.0 r.1

pub limit_bad : (queue : Option ℕ) → (IsQueueRanged queue → ⊥) → limit_of (capped queue) ≡ Err Range
unfolding limit_of
limit_bad None r = absurd (r tt)
limit_bad (Some q) r = up_to_bad LARGEST_QUEUE q (omega arith) r

pub number_good : (number t : ℕ) → number < top → t ≡ number → number_is number (min t top) ≡ Ok tt
unfolding number_is
number_good number t small e =
    let y : eqb (min t top) number ≡ true = let q : min t top ≡ number = omega arith in grind (arith, common_steps) in rw y refl

pub number_bad : (number t : ℕ) → number < top → t ≢ number → number_is number (min t top) ≡ Err Range
unfolding number_is
number_bad number t small ne =
    rw (by_bool (eqb (min t top) number) (λ y. let q : min t top ≡ number = grind (arith, common_steps) in ne (omega arith))) refl
