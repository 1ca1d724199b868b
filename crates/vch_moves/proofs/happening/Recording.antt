-- Work of a create, from the parts to the parts: a record is refused, or changes some keys of the voucher that is formed.
use Rattle.std.proofs.Common.{◌≡◌, ℕ, ◌+◌, ◌≤◌, Bool, true, List, [], arith, refl, sym, ap, ◌∙◌, subst, drop, Option, Some, None, Result, Ok, Err, ℤ}
use Rattle.vch_base.specs.declared.key.Key.{Key}
use Rattle.vch_base.specs.declared.kind.Kind.TheVariants as kinds
use Rattle.vch_recipe.specs.Recipes.{first_of}
use Rattle.vch_model.specs.Lines.{is_task}
use Rattle.vch_model.specs.declared.call.Call.TheVariants as calls
use Rattle.vch_model.specs.declared.lists.Scenario.{Scenario}
use Rattle.vch_machine.specs.Naming.{handles_of, is_known}
use Rattle.vch_machine.specs.Next.{nth_call}
use Rattle.vch_machine.specs.State as machine
use Rattle.vch_machine.specs.State.{Handles, Machine, tasked}
use Rattle.vch_machine.specs.Working.{WorkDone, do_work, work_first, work_done, size_of, changed_each}
use Rattle.vch_legal.specs.Tie.{Ties}
use Rattle.vch_legal.proofs.CallerLemmas.{IsAmong}
use Rattle.vch_frame.specs.Pairs.{Optional}
use Rattle.vch_vouchers.specs.Desks.{voucher_of}
use Rattle.vch_parts.specs.declared.frame.Frame.{Frame}
use Rattle.vch_parts.specs.Plain.{Indices, Plain, part_of}
use Rattle.vch_parts.specs.Shape.{IsMap}
use Rattle.vch_parts.proofs.CallerLemmas.{Happens}
use Rattle.vch_moves.specs.Moments.{Forms}
use Rattle.vch_moves.specs.Steps.{refused_call}
use Rattle.vch_moves.specs.Works.{Workspace, ChangesEach, Alters, formed, machine_formed}
use Rattle.vch_moves.proofs.desks.Names.{voucher_is}
use Rattle.vch_moves.proofs.holding.InTasks.{own_known}
use Rattle.vch_moves.proofs.stating.Begins.{refusals_stand}
use Rattle.vch_moves.proofs.stating.Forming.{vouchers_form}
use Rattle.vch_moves.proofs.happening.Calls.{AtCall}
use Rattle.vch_moves.proofs.happening.Ends.{work_is_done}
use Rattle.vch_moves.proofs.happening.Rooms.{work_room}

module _ (sc : Scenario) (c : Plain) (m : Machine) (t : ℕ) (f : Frame) (g : machine.Frame) (ties : Ties sc m) (task : is_task sc t ≡ true)
    (bytes : List ℕ) (there : nth_call sc t (part_of c t).begun ≡ Some (calls.Create bytes)) (a : AtCall sc c m t f g kinds.Work) where
  -- a voucher that a record names, which some name has
  pub named_voucher : (name : ℕ) (v : Indices) (P : Type 0) → voucher_of (part_of c t).names name ≡ Some v
      → ((z : Handles) → handles_of (tasked m t).names name ≡ Some z → IsMap c.keyed v z → is_known m z ≡ true → P) → P
  named_voucher name v P e h = by (handles_of (tasked m t).names name) refl (subst (λ o. Optional (IsMap c.keyed) o (handles_of (tasked m t).names name)) e (voucher_is c.keyed (part_of c t).names (tasked m t).names name (a.work.stands.shape.tasks t a.work.positive a.work.inside).names))
    where
      among : IsAmong t m.tasks
      among = let s = a.work.stands.shape.long in (a.work.positive, omega (arith, s, a.work.inside, a.work.positive))

      by : (o : Option Handles) → handles_of (tasked m t).names name ≡ o → Optional (IsMap c.keyed) (Some v) o → P
      by None q z = absurd z
      by (Some w) q z = h w q z (own_known m t name w among q)

  pub unnamed_voucher : (name : ℕ) → voucher_of (part_of c t).names name ≡ None → handles_of (tasked m t).names name ≡ None
  unnamed_voucher name e = by (handles_of (tasked m t).names name) (subst (λ o. Optional (IsMap c.keyed) o (handles_of (tasked m t).names name)) e (voucher_is c.keyed (part_of c t).names (tasked m t).names name (a.work.stands.shape.tasks t a.work.positive a.work.inside).names))
    where
      by : (o : Option Handles) → Optional (IsMap c.keyed) None o → o ≡ None
      by None z = refl
      by (Some w) z = absurd z

  module _ (want : Bool) (u : Indices) (w : Handles) (forms : Forms c g u w) where
    -- what the record makes, on the machine's side
    abbrev makes : Result WorkDone ℤ
    makes = work_first sc.version (tasked m t).names (first_of (drop f.at bytes)) w

    worked : (r : Result WorkDone ℤ) → makes ≡ r → do_work sc.version m t g w (calls.Create bytes) ≡ work_done m t g (calls.Create bytes) (size_of (first_of (drop f.at bytes))) r
    worked r e = ap (λ n. work_done m t g (calls.Create bytes) (size_of (first_of (drop n bytes))) (work_first sc.version (tasked m t).names (first_of (drop n bytes)) w)) (sym a.work.frame.at_byte)
        ∙ ap (work_done m t g (calls.Create bytes) (size_of (first_of (drop f.at bytes)))) e

    pub record_room : (code : ℤ) → makes ≡ Err code → 1 ≤ c.spare
    record_room code e = work_room sc c m t a.work.stands ties task f g u w bytes code forms there a (worked (Err code) e)

    pub record_refused : (code : ℤ) → makes ≡ Err code → Happens sc want kinds.Work t (refused_call c t f (calls.Create bytes) code) m
    record_refused code e =
        (_, work_is_done sc c m t f g task want u w bytes forms there a ∙ ap (λ n. Some n) (worked (Err code) e), a.next, refusals_stand sc c m t f g (calls.Create bytes) code a.work (record_room code e))

    pub record_works : (becomes : Indices → Key → Option (Option ℕ)) (to : Key → Option (Option ℕ)) (ks : List Key) (new : Workspace)
        → Alters c m w becomes to ks → ChangesEach becomes ks (record { keyed = c.keyed; map = u; lets = [] }) new
        → makes ≡ Ok (changed_each to ks (record { forming = w; left = [] }))
        → Happens sc want kinds.Work t (formed c t f (f.at + size_of (first_of (drop f.at bytes))) f.keys new) m
    record_works becomes to ks new alters changes e = (
      _,
      work_is_done sc c m t f g task want u w bytes forms there a ∙ ap (λ n. Some n) (worked (Ok (changed_each to ks (record { forming = w; left = [] }))) e
          ∙ ap (λ n. machine_formed m t g (n + size_of (first_of (drop f.at bytes))) g.keys (changed_each to ks (record { forming = w; left = [] }))) (sym a.work.frame.at_byte)
          ∙ ap (λ l. machine_formed m t g (f.at + size_of (first_of (drop f.at bytes))) l (changed_each to ks (record { forming = w; left = [] }))) (sym a.work.frame.keys)),
      a.next,
      vouchers_form sc c m t f g u w becomes to ks new (f.at + size_of (first_of (drop f.at bytes))) f.keys a.work forms alters changes,
    )
