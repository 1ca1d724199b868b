-- LetGo, Ask and Recheck: how a value is given back that no one holds any more. Between the three, other tasks may go on
-- and take the value again.
use Rattle.std.specs.Prelude.{ℕ, ◌+◌, Bool, true, false, ◌&&◌, ◌||◌, not, if◌then◌else◌, List, ◌∷◌, Option, Some, None}
use Rattle.vch_base.specs.Values.{is_default}
use Rattle.vch_machine.specs.Frames.{tallied, closed, with_frame}
use Rattle.vch_base.specs.Keyed.{of_key, with_key}
use Rattle.vch_machine.specs.State.{Place, Living, Pool, Claim, Frame, Machine, living_at, without_place, is_held, is_expected, claims_on, is_empty, Tally}
use Rattle.vch_model.specs.declared.entry.Entry.TheVariants as entries

-- the value is Default, which is never given back
abbrev pub is_fixed_value : Option Living → Bool
is_fixed_value None = false
is_fixed_value (Some l) = is_default l.value

-- the value at the place is Default
abbrev pub is_fixed : Machine → Place → Bool
is_fixed m p = is_fixed_value (living_at m.live p)

-- a claim that begins: raced where a receipt for the place is under way
abbrev pub new_claim : Machine → Place → Claim
new_claim m p = record { place = p; raced = is_expected m p; back = false; answer = None }

-- the claim of the one that let a place go last: none for Default, for a held one, and where a claim is there
abbrev pub claim_if : Machine → Place → Option Claim
claim_if m p = if is_fixed m p || (is_held m p || not (is_empty (claims_on m p))) then None else Some (new_claim m p)

-- one claim more where there is one
abbrev pub more_claims : Option Claim → Tally → Tally
more_claims None n = n
more_claims (Some c) n = record n { claims = n.claims + 1 }

-- the event LetGo: the first place of those still to be let go
abbrev pub do_let_go : Machine → ℕ → Frame → Place → List Place → Machine
do_let_go m t f p rest =
    let claim = claim_if (with_frame m t (Some (record f { lets = rest }))) p in
    tallied (more_claims claim) (with_frame m t (closed (record f { lets = rest; claim = claim })))

-- a handle is free again, and the first to be used
abbrev pub more_free : Pool → ℕ → Pool
more_free p h = record p { free = h ∷ p.free }

-- the number of the Made entry of a value that was found
abbrev pub made_of : Option Living → ℕ
made_of None = 0
made_of (Some l) = l.made

-- the value at a place is given back, and a Released entry with the number of its Made entry is appended
abbrev pub released : Machine → Place → Machine
released m p = record m {
  live = without_place m.live p;
  pools = with_key p.key (more_free (of_key p.key m.pools) p.handle) m.pools;
  past = entries.Released (made_of (living_at m.live p)) ∷ m.past;
}

-- the frame with the manager's answer at its claim
abbrev pub with_answer : Frame → Claim → Bool → Option Frame
with_answer f c agreed = Some (record f { claim = Some (record c { answer = Some agreed }) })

-- one question more was asked
abbrev pub one_ask : Tally → Tally
one_ask n = record n { asks = n.asks + 1 }

-- the event Ask: a claim that is not raced is agreed, a raced one is refused
abbrev pub do_ask : Machine → ℕ → Frame → Claim → Machine
do_ask m t f c =
    tallied one_ask (if c.raced then with_frame m t (with_answer f c false) else with_frame (released m c.place) t
    (with_answer f c true))

-- a claim that is back on a place that is not held begins anew, else it ends
abbrev pub again : Machine → Claim → Option Claim
again m c = if c.back && not (is_held m c.place) then Some (new_claim m c.place) else None

-- the event Recheck; its new claim does not count in the tally
abbrev pub do_recheck : Machine → ℕ → Frame → Claim → Machine
do_recheck m t f c = with_frame m t (closed (record f { claim = again m c }))
