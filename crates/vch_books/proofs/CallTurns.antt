-- The phase of a line, the current call of a task, and how many calls a legal history has.
use Rattle.std.proofs.Common.{◌≡◌, ℕ, zero, suc, ◌+◌, ◌-◌, ◌<◌, ◌≤◌, Bool, List, [], ◌∷◌, refl, true, false, arith, sym, ◌∙◌, subst, length, Some, None, Option, inl, inr, nat_lt, ◌&&◌}
use Rattle.std.specs.Prelude.{◌⊎◌, ◌==◌, if◌then◌else◌, nat_le}
use Rattle.std.proofs.lemmas.Grind.{common_steps}
use Rattle.vch_model.specs.declared.call.Call.{Call}
use Rattle.vch_model.specs.declared.call.Line.{Line}
use Rattle.vch_model.specs.declared.entry.Entry.{Entry}
use Rattle.vch_model.specs.declared.entry.Entry.TheVariants as entries
use Rattle.vch_model.specs.declared.entry.Reply.{Reply}
use Rattle.vch_model.specs.declared.call.Word.{Word}
use Rattle.vch_model.specs.declared.lists.Scenario.{Scenario}
use Rattle.vch_model.specs.Store.{Store}
use Rattle.vch_model.specs.After.{store_of}
use Rattle.vch_model.specs.Legal.{LegalPast, Answers}
use Rattle.vch_model.specs.Lines.{is_task, lines_from, lines_of, lines_until, line_at, next_line, call_of_phase, current_call, calls_in, phases_in}
use Rattle.vch_model.specs.Scenarios.{IsLimited, IsIn, line_count}
use Rattle.vch_machine.specs.Next.{call_in, nth_call}
use Rattle.vch_legal.proofs.CallerLemmas.{phase_of_line, no_lines, all_lines, lines_with_phase, line_has, line_sum}
use Rattle.vch_books.specs.Turns.{call_in_phase}
use Rattle.vch_books.proofs.Lists.{item_of, all_pass, filter_few, inside_of}
use Rattle.vch_books.proofs.Values.{number_eq}

-- between which counts of lines a line lies
pub record Lies (sc : Scenario) (t n : ℕ) (l : ℕ × Line) : Type 0 where
  pub phase : ℕ
  pub low : lines_until sc phase t < n
  pub high : n ≤ lines_until sc (phase + 1) t
  pub is : l.0 ≡ phase + 1

at_most : (sc : Scenario) (p t : ℕ) → lines_until sc p t ≤ length (lines_of sc t)
at_most sc p t = filter_few (λ l. nat_le l.0 p) (lines_of sc t)

pub lies : (sc : Scenario) (t n : ℕ) (l : ℕ × Line) → 1 ≤ n → line_at sc t n ≡ Some l → Lies sc t n l
lies sc t n l some e = from (length sc.phases) (inside n (inside_of (lines_of sc t) (n - 1) l e) some (sym (all_lines sc t (length sc.phases) (omega arith))))
  where
    inside : (n : ℕ) → n - 1 < length (lines_of sc t) → 1 ≤ n → length (lines_of sc t) ≡ lines_until sc (length sc.phases) t → n ≤ lines_until sc (length sc.phases) t
    inside n h s q = omega (arith, h, s, q)

    split : (a b : ℕ) → (a ≤ b) ⊎ (b < a)
    split a b = grind arith

    from : (k : ℕ) → n ≤ lines_until sc k t → Lies sc t n l
    from zero h = let z : lines_until sc 0 t ≡ 0 = no_lines sc t in absurd (omega (arith, h, z, some))
    from (suc k) h = elim (split n (lines_until sc k t)) as (λ _. Lies sc t n l) [
      | inl low ↦ from k low
      | inr high ↦ let up : n ≤ lines_until sc (k + 1) t = subst (λ m. n ≤ lines_until sc m t) next h in
          record { phase = k; low = high; high = up; is = phase_of_line sc t n k l e high up }
    ]
      where
        next : suc k ≡ k + 1
        next = omega arith

more_lines : (sc : Scenario) (p t : ℕ) → lines_until sc p t ≤ lines_until sc (p + 1) t
more_lines sc p t = let e = lines_with_phase sc t p in omega (arith, e)

-- The current call.

yes_eq : (a b : ℕ) → a ≡ b → (a == b) ≡ true
yes_eq a b e = grind (arith, common_steps)

not_eq : (a b : ℕ) → (a ≡ b → ⊥) → (a == b) ≡ false
not_eq a b f = by (a == b) refl
  where
    by : (c : Bool) → (a == b) ≡ c → (a == b) ≡ false
    by true e = absurd (f (number_eq a b e))
    by false e = e

-- where the next line lies in the phase
pub now_is : (sc : Scenario) (t b p : ℕ) → lines_until sc p t ≤ b → b < lines_until sc (p + 1) t → nth_call sc t (b + 1) ≡ call_in_phase sc t b p
unfolding call_in_phase
now_is sc t b p low high = by (line_at sc t (b + 1)) refl
  where
    by : (o : Option (ℕ × Line)) → line_at sc t (b + 1) ≡ o → call_in o ≡ call_of_phase (p + 1) o
    by None e = refl
    by (Some l) e =
        let q : l.0 ≡ p + 1 = phase_of_line sc t (b + 1) p l e (omega (arith, low)) (omega (arith, high)) in
        rw (yes_eq l.0 (p + 1) q) refl

pub none_late : (sc : Scenario) (t b p : ℕ) → (b < lines_until sc (p + 1) t → ⊥) → None ≡ call_in_phase sc t b p
unfolding call_in_phase
none_late sc t b p f = by (line_at sc t (b + 1)) refl
  where
    by : (o : Option (ℕ × Line)) → line_at sc t (b + 1) ≡ o → None ≡ call_of_phase (p + 1) o
    by None e = refl
    by (Some l) e = rw (not_eq l.0 (p + 1) no) refl
      where
        no : l.0 ≡ p + 1 → ⊥
        no q = let a = lies sc t (b + 1) l (omega arith) e in
            let k : a.phase ≡ p = same a.phase p (sym a.is ∙ q) in
            f (below (subst (λ m. b + 1 ≤ lines_until sc (m + 1) t) k a.high))
          where
            same : (a b : ℕ) → a + 1 ≡ b + 1 → a ≡ b
            same a b e = omega (arith, e)

            below : {a b : ℕ} → a + 1 ≤ b → a < b
            below h = omega (arith, h)

pub none_early : (sc : Scenario) (t b p : ℕ) → b < lines_until sc p t → None ≡ call_in_phase sc t b p
unfolding call_in_phase
none_early sc t b p h = by (line_at sc t (b + 1)) refl
  where
    by : (o : Option (ℕ × Line)) → line_at sc t (b + 1) ≡ o → None ≡ call_of_phase (p + 1) o
    by None e = refl
    by (Some l) e = rw (not_eq l.0 (p + 1) no) refl
      where
        no : l.0 ≡ p + 1 → ⊥
        no q = let a = lies sc t (b + 1) l (omega arith) e in
            let k : a.phase ≡ p = same a.phase p (sym a.is ∙ q) in
            let low : lines_until sc p t < b + 1 = subst (λ m. lines_until sc m t < b + 1) k a.low in
            absurd (omega (arith, low, h))
          where
            same : (a b : ℕ) → a + 1 ≡ b + 1 → a ≡ b
            same a b e = omega (arith, e)

pub none_before : (sc : Scenario) (t b p q : ℕ) → 0 < p → q ≡ p - 1 → b < lines_until sc (q + 1) t → None ≡ call_in_phase sc t b p
none_before sc t b p q some e h = none_early sc t b p (subst (λ m. b < lines_until sc m t) (back p q some e) h)
  where
    back : (p q : ℕ) → 0 < p → q ≡ p - 1 → q + 1 ≡ p
    back p q some e = omega (arith, e, some)

pub none_under : (sc : Scenario) (t b p : ℕ) → p ≡ 0 → lines_until sc p t ≤ b
none_under sc t b p e = rw (e, no_lines sc t) (omega arith)

pub not_before : (sc : Scenario) (t b p q : ℕ) → 0 < p → q ≡ p - 1 → (b < lines_until sc (q + 1) t → ⊥) → lines_until sc p t ≤ b
not_before sc t b p q some e f = over b (lines_until sc p t) (λ h. f (subst (λ m. b < lines_until sc m t) (sym (back p q some e)) h))
  where
    back : (p q : ℕ) → 0 < p → q ≡ p - 1 → q + 1 ≡ p
    back p q some e = omega (arith, e, some)

    over : (a b : ℕ) → (a < b → ⊥) → b ≤ a
    over a b h = grind arith

abbrev pub numbered : ℕ → ℕ → Call → ℕ × Line
numbered phase t call = (phase, record { task = t; call = call })

-- what is known of a task with a current call
pub record Current (sc : Scenario) (past : List Entry) (t : ℕ) (call : Call) : Type 0 where
  pub phase : ℕ
  pub there : line_at sc t (calls_in past t + 1) ≡ Some (numbered phase t call)
  pub fewer : calls_in past t < lines_until sc (phases_in past + 1) t
  pub task : is_task sc t ≡ true

pub task_of_line : (sc : Scenario) (t n : ℕ) (l : ℕ × Line) → IsLimited sc → line_at sc t n ≡ Some l → (l.1.task ≡ t) × (is_task sc t ≡ true)
task_of_line sc t n l limited e =
    let inside : IsIn sc.version (length sc.flags) l.1 = line_has (IsIn sc.version (length sc.flags)) sc t n l limited.lines e in
    let own : (l.1.task == t) ≡ true = item_of (λ (l : ℕ × Line). (l.1.task == t) ≡ true) (lines_of sc t) (n - 1) l (all_pass (λ (x : ℕ × Line). x.1.task == t) (lines_from 1 sc.phases)) e in
    let same : l.1.task ≡ t = number_eq l.1.task t own in
    (same, subst (λ u. is_task sc u ≡ true) same (task_in l.1.task (length sc.flags) inside.0 inside.1))
  where
    task_in : (t n : ℕ) → 0 < t → t ≤ n → (nat_lt 0 t && nat_lt t (n + 1)) ≡ true
    task_in t n a b = grind (arith, common_steps)

pub current_found : (sc : Scenario) (past : List Entry) (t : ℕ) (call : Call) → IsLimited sc → current_call sc past t ≡ Some call → Current sc past t call
current_found sc past t call limited e = by (next_line sc past t) refl e
  where
    by : (o : Option (ℕ × Line)) → line_at sc t (calls_in past t + 1) ≡ o → call_of_phase (phases_in past + 1) o ≡ Some call → Current sc past t call
    by None f g = absurd (cc)
    by (Some l) f g = split (l.0 == phases_in past + 1) refl g
      where
        split : (b : Bool) → (l.0 == phases_in past + 1) ≡ b → (if b then Some l.1.call else None) ≡ Some call → Current sc past t call
        split false k g = absurd (cc)
        split true k g =
            let is : l.1.call ≡ call = cc in
            let a = lies sc t (calls_in past t + 1) l (omega arith) f in
            let p : a.phase ≡ phases_in past = same a.phase (phases_in past) (sym a.is ∙ number_eq l.0 (phases_in past + 1) k) in
            let own = task_of_line sc t (calls_in past t + 1) l limited f in
            record {
              phase = l.0;
              there = f ∙ whole l.0 l.1.task l.1.call own.0 is;
              fewer = below (subst (λ m. calls_in past t + 1 ≤ lines_until sc (m + 1) t) p a.high);
              task = own.1;
            }
          where
            same : (a b : ℕ) → a + 1 ≡ b + 1 → a ≡ b
            same a b e = omega (arith, e)

            below : {a b : ℕ} → a + 1 ≤ b → a < b
            below h = omega (arith, h)

            whole : (p u : ℕ) (c : Call) → u ≡ t → c ≡ call → Some (numbered p u c) ≡ Some (numbered p t call)
            whole p u c e f = rw (e, f) refl

-- the task of a call that may follow
pub answered_current : (sc : Scenario) (past : List Entry) (s : Store) (t : ℕ) (word : Word) (reply : Reply)
    → Answers sc past s t (current_call sc past t) word reply → (call : Call) × (current_call sc past t ≡ Some call)
answered_current sc past s t word reply a = by (current_call sc past t) refl a
  where
    by : (o : Option Call) → current_call sc past t ≡ o → Answers sc past s t o word reply → (call : Call) × (current_call sc past t ≡ Some call)
    by None e a = absurd a
    by (Some call) e a = (call, e)

-- no task has more calls than lines in the phases so far
pub calls_at_most : (sc : Scenario) (past : List Entry) → IsLimited sc → LegalPast sc past → (t : ℕ)
    → calls_in past t ≤ lines_until sc (phases_in past + 1) t
calls_at_most sc [] limited h t = omega arith
calls_at_most sc (entries.Call u n word reply ∷ past) limited h t = by (u == t) refl (calls_at_most sc past limited h.0 t)
  where
    by : (b : Bool) → (u == t) ≡ b → calls_in past t ≤ lines_until sc (phases_in past + 1) t
        → calls_in past t + (if b then 1 else 0) ≤ lines_until sc (phases_in past + 1) t
    by false e l = omega (arith, l)
    by true e l =
        let c = answered_current sc past (store_of sc past) u word reply h.1.1 in
        let f : calls_in past u < lines_until sc (phases_in past + 1) u = (current_found sc past u c.0 limited c.1).fewer in
        let g : calls_in past t < lines_until sc (phases_in past + 1) t = subst (λ v. calls_in past v < lines_until sc (phases_in past + 1) v) (number_eq u t e) f in
        omega (arith, g)
calls_at_most sc (entries.Made k x ∷ past) limited h t = calls_at_most sc past limited h.0 t
calls_at_most sc (entries.Released e ∷ past) limited h t = calls_at_most sc past limited h.0 t
calls_at_most sc (entries.Gone u name ∷ past) limited h t = calls_at_most sc past limited h.0 t
calls_at_most sc (entries.Lost u ∷ past) limited h t = calls_at_most sc past limited h.0 t
calls_at_most sc (entries.Phase ∷ past) limited h t =
    let a : calls_in past t ≤ lines_until sc (phases_in past + 1) t = calls_at_most sc past limited h.0 t in
    let b : lines_until sc (phases_in past + 1) t ≤ lines_until sc (phases_in past + 1 + 1) t = more_lines sc (phases_in past + 1) t in
    omega (arith, a, b)

pub calls_few : (past : List Entry) (t : ℕ) → calls_in past t ≤ length past
calls_few [] t = omega arith
calls_few (entries.Call u n word reply ∷ past) t = by (u == t) (calls_few past t)
  where
    by : (b : Bool) → calls_in past t ≤ length past → calls_in past t + (if b then 1 else 0) ≤ suc (length past)
    by true l = omega (arith, l)
    by false l = omega (arith, l)
calls_few (entries.Made k x ∷ past) t = let l = calls_few past t in omega (arith, l)
calls_few (entries.Released e ∷ past) t = let l = calls_few past t in omega (arith, l)
calls_few (entries.Gone u name ∷ past) t = let l = calls_few past t in omega (arith, l)
calls_few (entries.Lost u ∷ past) t = let l = calls_few past t in omega (arith, l)
calls_few (entries.Phase ∷ past) t = let l = calls_few past t in omega (arith, l)

pub phases_few : (past : List Entry) → phases_in past ≤ length past
phases_few [] = omega arith
phases_few (entries.Call u n word reply ∷ past) = let l = phases_few past in omega (arith, l)
phases_few (entries.Made k x ∷ past) = let l = phases_few past in omega (arith, l)
phases_few (entries.Released e ∷ past) = let l = phases_few past in omega (arith, l)
phases_few (entries.Gone u name ∷ past) = let l = phases_few past in omega (arith, l)
phases_few (entries.Lost u ∷ past) = let l = phases_few past in omega (arith, l)
phases_few (entries.Phase ∷ past) = let l = phases_few past in omega (arith, l)

pub calls_of_lines : (sc : Scenario) (past : List Entry) → IsLimited sc → LegalPast sc past → (t : ℕ) → calls_in past t ≤ length (lines_of sc t)
calls_of_lines sc past limited h t = let a = calls_at_most sc past limited h t in let b = at_most sc (phases_in past + 1) t in omega (arith, a, b)

pub now_current : (sc : Scenario) (past : List Entry) (t : ℕ) → call_in_phase sc t (calls_in past t) (phases_in past) ≡ current_call sc past t
unfolding call_in_phase
now_current sc past t = refl

-- no task has more calls than there are
pub calls_below : (sc : Scenario) (past : List Entry) → IsLimited sc → LegalPast sc past → (t : ℕ) → calls_in past t ≤ 16384
calls_below sc past limited h t =
    let a : calls_in past t ≤ length (lines_of sc t) = calls_of_lines sc past limited h t in
    let b : length (lines_of sc t) ≤ length (lines_from 1 sc.phases) = filter_few (λ l. l.1.task == t) (lines_from 1 sc.phases) in
    let s : length (lines_from 1 sc.phases) ≡ line_count sc.phases = line_sum 1 sc.phases in
    let m : line_count sc.phases ≤ 16384 = limited.calls in
    omega (arith, a, b, s, m)
