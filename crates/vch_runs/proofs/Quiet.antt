-- Where no task of a core has a next event, every task is quiet: a frame that is there has something to do in every state that a
-- run reaches.
use Rattle.std.proofs.Common.{◌≡◌, ℕ, ◌+◌, ◌<◌, ◌≤◌, ◌&&◌, nat_lt, true, false, arith, refl, sym, ap, ◌∙◌, subst, length, Option, Some, None, IsTrue}
use Rattle.std.specs.Prelude.{is_some}
use Rattle.std.proofs.lemmas.Grind.{common_steps}
use Rattle.vch_model.specs.Lines.{is_task, phases_in, lines_until}
use Rattle.vch_model.specs.declared.lists.Scenario.{Scenario}
use Rattle.vch_machine.specs.State.{tasked}
use Rattle.vch_legal.proofs.CallerLemmas.{Rests, task_rests, none_next_rests, reached_stands}
use Rattle.vch_parts.specs.declared.frame.Frame.{Frame}
use Rattle.vch_parts.specs.declared.parts.Parts.{Parts}
use Rattle.vch_parts.specs.Framed.{frame_of, begun_of}
use Rattle.vch_parts.specs.Phases.{IsQuiet, IsOver}
use Rattle.vch_parts.specs.Reached.{Reached, IsNext}
use Rattle.vch_runs.proofs.Framed.{Reach, reach, frame_same, own_begun, next_of, is_true}

pub number_within : (sc : Scenario) (t : ℕ) → is_task sc t ≡ true → (0 < t) × (t ≤ length sc.flags)
number_within sc t e = by t (length sc.flags) e
  where
    by : (t n : ℕ) → (nat_lt 0 t && nat_lt t (n + 1)) ≡ true → (0 < t) × (t ≤ n)
    by t n e = let a : 0 < t = grind (arith, common_steps) in let b : t ≤ n = grind (arith, common_steps) in (a, b)

none_is : (o : Option Frame) → is_some o ≡ false → o ≡ None
none_is None e = refl
none_is (Some f) e = absurd (cc)

pub rests_quiet : (p : Parts) (t : ℕ) → is_task p.scenario t ≡ true → Reached p → IsNext p t None → IsQuiet p t
rests_quiet p t e r next =
    let x : Reach p = reach p r in
    let rest : Rests p.scenario x.m t =
    task_rests p.scenario x.m t (none_next_rests p.scenario x.m t (reached_stands p.scenario x.moves x.m x.run) e (ap is_some (next_of p t None x.m next x.state))) in
    record {
      frame = none_is (frame_of p.frames t) (sym (frame_same p x.m t x.state e) ∙ ap is_some rest.frame);
      begun =
          let a : p.phase ≡ phases_in x.m.past = x.stands.phase in
          let b : begun_of p.frames t ≡ (tasked x.m t).begun = own_begun p x.m t x.state e in
          let f : lines_until p.scenario (phases_in x.m.past + 1) t ≤ (tasked x.m t).begun = fewer _ _ rest.begun in
          subst (λ k. lines_until p.scenario (k + 1) t ≤ begun_of p.frames t) (sym a) (subst (λ k. lines_until p.scenario (phases_in x.m.past + 1) t ≤ k) (sym b) f);
    }
  where
    fewer : (a b : ℕ) → nat_lt a b ≡ false → b ≤ a
    fewer a b h = grind (arith, common_steps)

-- so the phase is over where a phase is left and no task has a next event
pub over_of : (p : Parts) → Reached p → p.phase < length p.scenario.phases → ((t : ℕ) → IsTrue (is_task p.scenario t) → IsNext p t None) → IsOver p
over_of p r left next = record { left = left; quiet = λ t e. rests_quiet p t (is_true _ e) r (next t e) }
