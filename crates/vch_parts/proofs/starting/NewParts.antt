-- From what new parts are made of, to the start.
use Rattle.std.proofs.Common.{◌≡◌, ℕ, zero, suc, ◌+◌, ◌*◌, ◌≤◌, List, [], ◌∷◌, refl, arith, sym, ap, ◌∙◌, length, None}
use Rattle.std.specs.List.{AllByRecursion}
use Rattle.std.proofs.lemmas.List.{length-map}
use Rattle.vch_base.specs.declared.key.Key.{Key}
use Rattle.vch_base.specs.Keyed.{Keyed, of_key}
use Rattle.vch_bounds.proofs.CallerLemmas.{limited_of}
use Rattle.vch_model.specs.Rows as rows
use Rattle.vch_model.specs.Scenarios.{IsLimited, IsQueueOf, line_count}
use Rattle.vch_model.specs.declared.lists.Scenario.{Scenario}
use Rattle.vch_machine.specs.State.{start}
use Rattle.vch_values.specs.Parts.{KeyParts, IsNew}
use Rattle.vch_vouchers.specs.Desks.{Desk, empty_desk, empty_desks, AreLimits}
use Rattle.vch_parts.specs.declared.frames.Working.{Working}
use Rattle.vch_parts.specs.declared.parts.Parts.{Parts}
use Rattle.vch_parts.specs.Framed.{all_resting}
use Rattle.vch_parts.specs.Fresh.{fresh_parts, IsFresh}
use Rattle.vch_parts.specs.Plain.{Part}
use Rattle.vch_parts.specs.Reached.{plain_of, beside, parts_in, Reached, IsState}
use Rattle.vch_parts.proofs.framing.Sides.{parts_even}
use Rattle.vch_parts.proofs.starting.FromStart.{start_stands, start_reached}

pub limits_are : (version : ℕ) (limits : List ℕ) → AllByRecursion (IsQueueOf version) limits → AreLimits limits
limits_are version [] h = tt
limits_are version (l ∷ limits) h = (h.0.0, h.0.1, limits_are version limits h.1)

beside_fresh : (limits : List ℕ) (n : ℕ) → n ≡ length limits → beside (empty_desks limits) (all_resting n) ≡ fresh_parts limits
beside_fresh [] n e = refl
beside_fresh (l ∷ limits) zero e = absurd (omega (arith, e))
beside_fresh (l ∷ limits) (suc n) e = ap (λ (ps : List Part). record { names = []; next = 1; queue = []; limit = l; begun = 0; frame = None } ∷ ps) (beside_fresh limits n (omega (arith, e)))

resting_many : (n : ℕ) → length (all_resting n) ≡ n
resting_many zero = refl
resting_many (suc n) = let r : length (all_resting n) ≡ n = resting_many n in omega (arith, r)

parts_fresh : (limits : List ℕ) (n : ℕ) → n ≡ length limits → parts_in (empty_desks limits) (all_resting n) ≡ fresh_parts limits
parts_fresh limits n e = parts_even (empty_desks limits) (all_resting n) (length-map limits empty_desk ∙ (sym e ∙ sym (resting_many n))) ∙ beside_fresh limits n e

-- new parts, by what they were made of
pub new_parts : (sc : Scenario) → IsLimited sc → (values : Keyed KeyParts) (desks : List Desk) (frames : List Working) (history : rows.Entries) (n calls phases : ℕ)
    → ((k : Key) → IsNew k sc.flags (of_key k values)) → desks ≡ empty_desks sc.queues → frames ≡ all_resting n → n ≡ length sc.flags
    → history.entries ≡ [] → 2 * calls + phases ≤ history.spare → calls ≡ line_count sc.phases → phases ≡ length sc.phases
    → IsFresh sc (plain_of (record { scenario = sc; phase = 0; values = values; vouchers = desks; frames = frames; tally = record { claims = 0; refers = 0; asks = 0 }; history = history }))
new_parts sc limited values desks frames history n calls phases new desks_are frames_are count empty room calls_are phases_are = record {
  keyed = new;
  tasks = rw (desks_are, frames_are) (parts_fresh sc.queues n (count ∙ sym limited.queues));
  history = empty;
  room = omega (arith, room, calls_are, phases_are);
  phase = refl;
  tally = refl;
}

-- they are the end of the run without a move
pub new_reached : (p : Parts) → IsLimited p.scenario → IsFresh p.scenario (plain_of p) → Reached p
new_reached p limited fresh = record { limited = limited_of p.scenario limited; end = start_reached p.scenario (plain_of p) limited fresh }

pub new_stands : (p : Parts) → IsLimited p.scenario → IsFresh p.scenario (plain_of p) → IsState p.scenario (plain_of p) (start p.scenario)
unfolding IsState
new_stands p limited fresh = ([], refl, start_stands p.scenario (plain_of p) limited fresh)
