-- From what the code of an answer does to the parts as plain data.
use Rattle.std.proofs.Common.{◌≡◌, ℕ, ◌+◌, ◌-◌, ◌<◌, ◌≤◌, true, List, [], ◌∷◌, ◌++◌, refl, arith, sym, ap, ◌∙◌, length}
use Rattle.vch_base.specs.Tasks.{at_task, set_task}
use Rattle.vch_vouchers.specs.Desks.{Desk}
use Rattle.vch_bounds.proofs.CallerLemmas.{one_of_all}
use Rattle.vch_bounds.specs.Spent.{begun_in, in_all}
use Rattle.vch_model.specs.Lines.{is_task}
use Rattle.vch_model.specs.Rows.{Entries}
use Rattle.vch_model.specs.declared.call.Word.{Word}
use Rattle.vch_model.specs.declared.entry.Entry.{Entry}
use Rattle.vch_model.specs.declared.entry.Entry.TheVariants as entries
use Rattle.vch_model.specs.declared.entry.Reply.{Reply}
use Rattle.vch_machine.specs.State.{idle, tasked}
use Rattle.vch_parts.specs.declared.frames.Working.{Working}
use Rattle.vch_parts.specs.declared.parts.Parts.{Parts}
use Rattle.vch_parts.specs.Framed.{begun_of, with_begun_of, working_of}
use Rattle.vch_parts.specs.Plain.{Plain, Part, part_of, idle_part}
use Rattle.vch_parts.specs.Reached.{plain_of, parts_in, Reached}
use Rattle.vch_parts.proofs.CallerLemmas.{numbers_of, in_parts, own_begun, range, set_work, side_at}
use Rattle.vch_moves.specs.Steps.{begun_one}
use Rattle.vch_answers.specs.Answered.{Answers}

-- a task has begun few calls
pub begun_few : (p : Parts) (t : ℕ) → Reached p → is_task p.scenario t ≡ true → begun_of p.frames t < 4294967295
begun_few p t reached task = numbers_of p _ reached (λ m s ties n.
    let e = in_parts p.scenario (plain_of p) m t s ties task in
    let own : begun_of p.frames t ≡ (tasked m t).begun = sym (own_begun p t reached task) ∙ (s.shape.tasks t e.0 e.1).begun in
    let a : (tasked m t).begun ≤ in_all begun_in m = one_of_all begun_in m.tasks t idle refl in
    let b = n.begun in omega (arith, own, a, b))

-- one call more was begun
pub begun_then : (ds : List Desk) (fs : List Working) (t : ℕ) → 0 < t → t - 1 < length (parts_in ds fs)
    → parts_in ds (with_begun_of fs t) ≡ set_task (parts_in ds fs) t (begun_one (at_task (parts_in ds fs) t idle_part))
begun_then ds fs t p l =
    set_work ds fs t (record (working_of fs t) { begun = begun_of fs t + 1 }) p
    ∙ ap (λ (x : Part). set_task (parts_in ds fs) t (begun_one x)) (sym (side_at ds fs t p l))

plain_is : (x : Plain) (d e : List Part) (f g : List Entry) (i j : ℕ) → d ≡ e → f ≡ g → i ≡ j
    → record x { tasks = d; history = f; spare = i } ≡ record x { tasks = e; history = g; spare = j }
plain_is x d e f g i j p q r = rw (p, q, r) refl

module _ (p : Parts) (t : ℕ) (reached : Reached p) (task : is_task p.scenario t ≡ true) (word : Word) (reply : Reply)
    (frames2 : List Working) (history2 : Entries) (put : frames2 ≡ with_begun_of p.frames t)
    (pushed : history2.entries ≡ p.history.entries ++ entries.Call t (begun_of p.frames t + 1) word reply ∷ [])
    (less : history2.spare + 1 ≡ p.history.spare) where
  one_less : (a b : ℕ) → a + 1 ≡ b → a ≡ b - 1
  one_less a b e = omega (arith, e)

  pub answer_is : Answers t word reply p (record p { frames = frames2; history = history2 })
  answer_is = record {
    scenario = refl;
    plain = λ call same. plain_is (plain_of p) _ _ _ _ _ _
        (let n = range p t reached task in ap (parts_in p.vouchers) put ∙ begun_then p.vouchers p.frames t n.0 n.1)
        (pushed ∙ ap (λ n. p.history.entries ++ entries.Call t (n + 1) word reply ∷ []) (sym (own_begun p t reached task))
        ∙ ap (λ w. p.history.entries ++ entries.Call t ((part_of (plain_of p) t).begun + 1) w reply ∷ []) (sym same))
        (one_less _ _ less);
  }
