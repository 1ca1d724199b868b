-- What the calls of the four events need, of the parts.
use Rattle.std.proofs.Common.{◌≡◌, ◌≢◌, ℕ, ◌<◌, ◌≤◌, true, List, ◌∷◌, sym, ap, ◌∙◌, length, Option, Some, None, IsTrue}
use Rattle.std.specs.Prelude.{IsSome, IfSome}
use Rattle.vch_base.specs.declared.key.Key.{Key}
use Rattle.vch_base.specs.declared.kind.Kind.TheVariants as kinds
use Rattle.vch_base.specs.declared.value.Value.TheVariants as values
use Rattle.vch_base.specs.Keys.{number_of}
use Rattle.vch_base.specs.Keyed.{of_key}
use Rattle.vch_base.specs.Managers.{live_at, value_at}
use Rattle.vch_entry.specs.Entries.{IsApart, handle_at, entry_at, refs_of, made_of, releasing_of}
use Rattle.vch_table.specs.Indices.{index_at}
use Rattle.vch_value.specs.Flight as flight
use Rattle.vch_value.specs.Flight.{Asked}
use Rattle.vch_model.specs.Lines.{is_task}
use Rattle.vch_model.specs.declared.call.Call.{Call}
use Rattle.vch_machine.specs.Next.{nth_call}
use Rattle.vch_frame.specs.declared.frame.Claiming.{Claiming}
use Rattle.vch_frame.specs.declared.frame.KeyIndex.{KeyIndex}
use Rattle.vch_frame.specs.declared.frame.KeyReceipt.{KeyReceipt}
use Rattle.vch_parts.specs.declared.frame.Frame.{Frame}
use Rattle.vch_parts.specs.declared.parts.Parts.{Parts}
use Rattle.vch_parts.specs.Framed.{frame_of, begun_of}
use Rattle.vch_parts.specs.Moves.{PutsIndex}
use Rattle.vch_parts.specs.Nexts.{value_kind, IsInside}
use Rattle.vch_parts.specs.Plain.{part_of}
use Rattle.vch_parts.specs.Reached.{plain_of, Reached}
use Rattle.vch_parts.proofs.asks.AsksEvent as asks
use Rattle.vch_parts.proofs.lets.LetsGoEvent as lets
use Rattle.vch_parts.proofs.rechecks.RechecksEvent as rechecks
use Rattle.vch_parts.proofs.refers.RefersEvent as refers
use Rattle.vch_parts.proofs.framing.OfParts.{own_frame, own_begun, lets_go_next, asks_next, rechecks_next}

module _ (p : Parts) (t : ℕ) (f : Frame) (reached : Reached p) (task : is_task p.scenario t ≡ true) (own : frame_of p.frames t ≡ Some f) where
  own_is : (part_of (plain_of p) t).frame ≡ Some f
  own_is = own_frame p t reached task ∙ own

  module _ (l : KeyIndex) (ls : List KeyIndex) (next : value_kind (frame_of p.frames t) ≡ Some kinds.LetGo) (lets_are : f.lets ≡ l ∷ ls) where
    told : (f.receipt ≡ None) × (f.claim ≡ Claiming.Nothing)
    told = lets_go_next f (sym (ap value_kind own) ∙ next)

    pub let_go_there : IsSome (entry_at (of_key l.key p.values).entries.slots l.index)
    let_go_there = lets.let_go_there p.scenario (plain_of p) t f l ls task own_is told.0 told.1 lets_are reached.end

    pub let_go_counts : IsApart (of_key l.key p.values).entries.slots → 1 ≤ refs_of (entry_at (of_key l.key p.values).entries.slots l.index)
    let_go_counts = lets.let_go_counts p.scenario (plain_of p) t f l ls task own_is told.0 told.1 lets_are reached.end

  module _ (k : Key) (x : flight.Claim) (next : value_kind (frame_of p.frames t) ≡ Some kinds.Ask) (claim : f.claim ≡ Claiming.Claimed k x) where
    receipt : f.receipt ≡ None
    receipt = asks_next f (sym (ap value_kind own) ∙ next)

    pub ask_there : IsSome (entry_at (of_key k p.values).entries.slots x.index)
    ask_there = asks.ask_there p.scenario (plain_of p) t f k x task own_is receipt claim reached.end

    pub ask_live : IfSome (handle_at (of_key k p.values).entries.slots x.index) (λ h. IsSome (live_at (of_key k p.values).kept.slots h))
    ask_live = asks.ask_live p.scenario (plain_of p) t f k x task own_is receipt claim reached.end

    pub ask_other : IfSome (handle_at (of_key k p.values).entries.slots x.index) (λ h. value_at (of_key k p.values).kept.slots h ≢ Some values.Default)
    ask_other = asks.ask_other p.scenario (plain_of p) t f k x task own_is receipt claim reached.end

    pub ask_room : 1 ≤ p.history.spare
    ask_room = asks.ask_room p.scenario (plain_of p) t f k x task own_is receipt claim reached.end

  module _ (k : Key) (x : Asked) (next : value_kind (frame_of p.frames t) ≡ Some kinds.Recheck) (claim : f.claim ≡ Claiming.Answered k x) where
    unreceipted : f.receipt ≡ None
    unreceipted = rechecks_next f (sym (ap value_kind own) ∙ next)

    pub recheck_releasing : IsApart (of_key k p.values).entries.slots → IsTrue (releasing_of (entry_at (of_key k p.values).entries.slots x.index))
    recheck_releasing = rechecks.recheck_releasing p.scenario (plain_of p) t f k x task own_is unreceipted claim reached.end

    pub recheck_within : IsApart (of_key k p.values).entries.slots → x.sync ≤ made_of (entry_at (of_key k p.values).entries.slots x.index)
    recheck_within = rechecks.recheck_within p.scenario (plain_of p) t f k x task own_is unreceipted claim reached.end

  module _ (r : KeyReceipt) (has : f.receipt ≡ Some r) where
    begun_is : (call : Option Call) → nth_call p.scenario t (begun_of p.frames t) ≡ call → nth_call p.scenario t (part_of (plain_of p) t).begun ≡ call
    begun_is call is = ap (nth_call p.scenario t) (own_begun p t reached task) ∙ is

    pub refer_call : nth_call p.scenario t (begun_of p.frames t) ≡ None → ⊥
    refer_call none = refers.refer_call p.scenario (plain_of p) t f r task own_is has reached.end (begun_is None none)

    pub refer_inside : (call : Call) (index : ℕ) (f3 : Frame) → nth_call p.scenario t (begun_of p.frames t) ≡ Some call → IfSome f.forming (λ v. PutsIndex r.key (Some index) v (record f { receipt = None }) f3) → IsInside f3.at call
    refer_inside call index f3 is puts = refers.refer_inside p.scenario (plain_of p) t f r task own_is has call index f3 (begun_is (Some call) is) puts reached.end

    pub refer_room : 1 ≤ (of_key r.key p.values).entries.spare
    refer_room = refers.refer_room p.scenario (plain_of p) t f r task own_is has reached.end

    pub refer_keys : IfSome f.forming (λ v. index_at v (number_of r.key) ≡ None → length v < 4)
    refer_keys = refers.refer_keys p.scenario (plain_of p) t f r task own_is has reached.end

    pub refer_lets : length f.lets < 12
    refer_lets = refers.refer_lets p.scenario (plain_of p) t f r task own_is has reached.end
