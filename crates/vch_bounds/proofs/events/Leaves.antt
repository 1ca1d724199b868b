-- LetGo, Ask and Recheck.
use Rattle.std.proofs.Common.{◌≡◌, ℕ, suc, ◌+◌, ◌*◌, ◌≤◌, Bool, true, false, List, ◌∷◌, refl, arith, ap, length, Some, None, Option}
use Rattle.std.specs.Prelude.{if◌then◌else◌}
use Rattle.vch_base.specs.Keyed.{of_key}
use Rattle.vch_model.specs.declared.call.Call.{Call}
use Rattle.vch_model.specs.declared.lists.Scenario.{Scenario}
use Rattle.vch_machine.specs.State.{Place, Claim, Frame, Machine, tasked}
use Rattle.vch_machine.specs.Frames.{closed, with_frame, tallied}
use Rattle.vch_machine.specs.Leaving.{claim_if, more_claims, more_free, do_let_go, released, with_answer, one_ask, do_ask, again, do_recheck}
use Rattle.vch_legal.proofs.CallerLemmas.{IsAmong}
use Rattle.vch_bounds.proofs.events.Paid.{Pays, Own, own_framed, Costs, closed_costs, closed_flying, quiet_pays, as_used, used_with}

none_made : (n : ℕ) → n ≡ n + 0
none_made n = omega arith

-- the frame has as much left
still_costs : (version : ℕ) (call : Option Call) (f : Frame) (c : Option Claim)
    → Costs version call (Some f) (Some (record f { claim = c })) 0 0 0
still_costs version call f c = record { takes = omega arith; lets = omega arith }

-- a handle less is to be let go, and claimed at most
let_go_costs : (version : ℕ) (call : Option Call) (f : Frame) (q : Place) (rest : List Place) (c : Option Claim) (n : ℕ)
    → f.lets ≡ q ∷ rest → n ≤ 1
    → Costs version call (Some f) (Some (record f { lets = rest; claim = c })) 0 n 0
let_go_costs version call f q rest c n e l =
    let a : length f.lets ≡ suc (length rest) = ap length e in
    record { takes = omega arith; lets = less (length f.lets) (length rest) _ _ a }
  where
    less : (x y z w : ℕ) → x ≡ suc y → 4 * n + (4 * y + z + w) ≤ 4 * x + z + w + 16 * 0
    less x y z w a = omega (arith, a, l)

pub let_go_pays : (sc : Scenario) (t : ℕ) (m : Machine) (f : Frame) (q : Place) (rest : List Place) → IsAmong t m.tasks
    → (tasked m t).frame ≡ Some f → f.lets ≡ q ∷ rest → Pays sc t m (do_let_go m t f q rest)
let_go_pays sc t m f q rest among frame lets = by_claim (claim_if (with_frame m t (Some (record f { lets = rest }))) q)
  where
    pays : (claim : Option Claim) (n : ℕ) → n ≤ 1 → (more_claims claim m.tally).refers ≡ m.tally.refers + 0
        → (more_claims claim m.tally).claims ≡ m.tally.claims + n
        → Pays sc t m (tallied (more_claims claim) (with_frame m t (closed (record f { lets = rest; claim = claim }))))
    pays claim n l refers claims =
        let own : Own t m (with_frame m t (closed (record f { lets = rest; claim = claim }))) (closed (record f { lets = rest; claim = claim })) =
        own_framed t m m (closed (record f { lets = rest; claim = claim })) among refl in
        quiet_pays sc t m (tallied (more_claims claim) (with_frame m t (closed (record f { lets = rest; claim = claim })))) f
        (closed (record f { lets = rest; claim = claim })) n 0 frame
        (record { begun = own.begun; frame = own.frame })
        (record { refers = refers; claims = claims; given = none_made _ })
        (closed_costs sc.version _ (Some f) (record f { lets = rest; claim = claim }) 0 n 0
        (let_go_costs sc.version _ f q rest claim n lets l))
        refl (λ k. as_used _) (closed_flying (record f { lets = rest; claim = claim }))

    by_claim : (claim : Option Claim)
        → Pays sc t m (tallied (more_claims claim) (with_frame m t (closed (record f { lets = rest; claim = claim }))))
    by_claim None = pays None 0 (omega arith) (none_made _) (none_made _)
    by_claim (Some c) = pays (Some c) 1 (omega arith) (none_made _) refl

pub recheck_pays : (sc : Scenario) (t : ℕ) (m : Machine) (f : Frame) (c : Claim) → IsAmong t m.tasks
    → (tasked m t).frame ≡ Some f → Pays sc t m (do_recheck m t f c)
recheck_pays sc t m f c among frame =
    quiet_pays sc t m (do_recheck m t f c) f (closed (record f { claim = again m c })) 0 0 frame
    (own_framed t m m (closed (record f { claim = again m c })) among refl)
    (record { refers = none_made _; claims = none_made _; given = none_made _ })
    (closed_costs sc.version _ (Some f) (record f { claim = again m c }) 0 0 0 (still_costs sc.version _ f (again m c)))
    refl (λ k. as_used _) (closed_flying (record f { claim = again m c }))

pub ask_pays : (sc : Scenario) (t : ℕ) (m : Machine) (f : Frame) (c : Claim) → IsAmong t m.tasks
    → (tasked m t).frame ≡ Some f → Pays sc t m (do_ask m t f c)
ask_pays sc t m f c among frame = by_raced c.raced
  where
    by_raced : (b : Bool) → Pays sc t m (tallied one_ask
        (if b then with_frame m t (with_answer f c false) else with_frame (released m c.place) t (with_answer f c true)))
    by_raced true =
        let own : Own t m (with_frame m t (with_answer f c false)) (with_answer f c false) =
        own_framed t m m (with_answer f c false) among refl in
        quiet_pays sc t m (tallied one_ask (with_frame m t (with_answer f c false))) f (with_answer f c false) 0 0 frame
        (record { begun = own.begun; frame = own.frame })
        (record { refers = none_made _; claims = none_made _; given = none_made _ })
        (still_costs sc.version _ f (Some (record c { answer = Some false }))) refl (λ k. as_used _) refl
    by_raced false =
        let own : Own t m (with_frame (released m c.place) t (with_answer f c true)) (with_answer f c true) =
        own_framed t m (released m c.place) (with_answer f c true) among refl in
        quiet_pays sc t m (tallied one_ask (with_frame (released m c.place) t (with_answer f c true))) f (with_answer f c true) 0 0 frame
        (record { begun = own.begun; frame = own.frame })
        (record { refers = none_made _; claims = none_made _; given = omega arith })
        (still_costs sc.version _ f (Some (record c { answer = Some true }))) (omega arith)
        (λ k. used_with c.place.key k (more_free (of_key c.place.key m.pools) c.place.handle) m.pools 0 (as_used _)) refl
