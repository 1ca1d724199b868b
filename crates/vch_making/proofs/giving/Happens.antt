-- The event Make by the manager's answer: what happens to the parts.
use Rattle.std.proofs.Common.{◌≡◌, ℕ, ◌+◌, ◌<◌, ◌≤◌, true, false, subst, ap, ◌∙◌, length, Option, Some, None}
use Rattle.std.specs.Prelude.{Result, Ok, Err, ℤ}
use Rattle.std.proofs.Math.ListN.{set}
use Rattle.vch_base.specs.declared.key.Key.{Key}
use Rattle.vch_base.specs.declared.kind.Kind.TheVariants as kinds
use Rattle.vch_base.specs.declared.value.Value.{Value}
use Rattle.vch_base.specs.Keys.{number_of}
use Rattle.vch_base.specs.Keyed.{of_key}
use Rattle.vch_base.specs.Managers.{IsAbsent}
use Rattle.vch_base.specs.Values.{Belongs}
use Rattle.vch_table.specs.Indices.{Bounded, SetsIndex}
use Rattle.vch_value.specs.Flight.{Receipt}
use Rattle.vch_value.specs.Picture as picture
use Rattle.vch_value.specs.Picture.{made_picture}
use Rattle.vch_model.specs.Lines.{is_task}
use Rattle.vch_model.specs.declared.lists.Scenario.{Scenario}
use Rattle.vch_machine.specs.Events.{event}
use Rattle.vch_machine.specs.Making.{asked_by, make_asked, make_done, made_at, fresh_handle}
use Rattle.vch_machine.specs.State as machine
use Rattle.vch_machine.specs.State.{Handles, Living, Machine, living_at, handle_of}
use Rattle.vch_legal.specs.Tie.{Ties}
use Rattle.vch_legal.proofs.CallerLemmas.{append_here, event_keeps, fresh_dead}
use Rattle.vch_bounds.specs.Rooms.{room_of}
use Rattle.vch_values.specs.Parts.{KeyParts}
use Rattle.vch_parts.specs.declared.frame.Frame.{Frame}
use Rattle.vch_parts.specs.Plain.{Plain, Indices}
use Rattle.vch_parts.specs.Pictures.{picture_of}
use Rattle.vch_parts.proofs.CallerLemmas.{Happens}
use Rattle.vch_moves.specs.Moments.{Forms}
use Rattle.vch_moves.specs.Steps.{refused_call}
use Rattle.vch_moves.proofs.CallerLemmas.{AtCall, make_event, refuses}
use Rattle.vch_making.specs.Given.{gave, gave_fresh, gave_none, HandsOut}
use Rattle.vch_making.proofs.giving.FreshLive.{absent_handle}
use Rattle.vch_making.proofs.giving.Gives.{again_stands, fresh_stands}
use Rattle.vch_making.proofs.giving.GivesNone.{none_stands}

module _ (sc : Scenario) (c : Plain) (m : Machine) (t : ℕ) (f : Frame) (g : machine.Frame) (u : Indices) (w : Handles) (ties : Ties sc m) (task : is_task sc t ≡ true)
    (a : AtCall sc c m t f g kinds.Make) (forms : Forms c g u w) (k : Key) where
  -- what the machine asks, and what it is answered
  abbrev pub AsksFor : Result (Option Value) ℤ → Type 0
  AsksFor reply = asked_by sc m t g w a.call ≡ Some (record { key = k; reply = reply })

  pub made_event : (reply : Result (Option Value) ℤ) → AsksFor reply → event sc false m t ≡ Some (make_done sc.version m t g w a.call k reply)
  made_event reply e = make_event sc c m t f g task false u w a.call forms a.begun a ∙ ap (make_asked sc.version m t g w a.call) e

  pub refused_happens : (code : ℤ) → AsksFor (Err code) → 1 ≤ c.spare → Happens sc false kinds.Make t (refused_call c t f a.call code) m
  refused_happens code e room = refuses sc c m t f g ties task kinds.Make false a.call code a room (made_event (Err code) e)

  pub none_happens : (u2 : Indices) → AsksFor (Ok None) → Bounded u2 → SetsIndex u u2 (number_of k) None → Happens sc false kinds.Make t (gave_none c t f sc.version a.call k u u2) m
  none_happens u2 e bounded sets = (_, made_event (Ok None) e, a.next, none_stands sc c m t f g u w k a.call u2 a.work forms bounded sets)

  -- a value that is fresh belongs to its key
  pub fresh_belongs : (x : Value) → AsksFor (Ok (Some x)) → IsAbsent (of_key k c.keyed).kept.slots x → Belongs k x
  fresh_belongs x e absent = ((event_keeps sc false t m _ ties.fits made).values Spot living (append_here m.live living dead)).belongs
    where
      Spot : machine.Place
      Spot = record { key = k; handle = fresh_handle (of_key k m.pools) }

      living : Living
      living = record { place = Spot; value = x; made = length m.past + 1 }

      dead : living_at m.live Spot ≡ None
      dead = fresh_dead m k ties.fits.each_once

      missing : handle_of m.live k x ≡ None
      missing = absent_handle sc m k (of_key k c.keyed).kept.slots (of_key k c.keyed).numbers x ties.fits (a.work.stands.keyed k).living absent

      made : event sc false m t ≡ Some (made_at m t g k x None)
      made = subst (λ o. event sc false m t ≡ Some (made_at m t g k x o)) missing (made_event (Ok (Some x)) e)

  module _ (x : Value) (receipt : Receipt) (x2 : KeyParts) (e : AsksFor (Ok (Some x)))
      (counts : picture.Depicts (made_picture receipt (picture_of k c m)) x2.entries x2.kept) where
    pub again_happens : HandsOut receipt false x (of_key k c.keyed) x2 → x2.numbers ≡ (of_key k c.keyed).numbers → Happens sc false kinds.Make t (gave c t f k receipt x2) m
    again_happens hands numbers = (
      _,
      made_event (Ok (Some x)) e,
      a.next,
      again_stands sc c m t a.work.positive a.work.inside f g k receipt a.work.own a.work.task a.work.frame a.work.idle.0 a.work.idle.1 a.work.stands ties x x2 counts hands numbers,
    )

    pub fresh_happens : HandsOut receipt true x (of_key k c.keyed) x2 → x2.numbers ≡ set (of_key k c.keyed).numbers receipt.handle (length c.history + 1) → receipt.handle < length (of_key k c.keyed).numbers
        → Belongs k x → room_of sc m.past + 2 ≤ length m.past + c.spare → Happens sc false kinds.Make t (gave_fresh c t f k receipt x2 x) m
    fresh_happens hands numbers there belongs room = (
      _,
      made_event (Ok (Some x)) e,
      a.next,
      fresh_stands sc c m t a.work.positive a.work.inside f g k receipt a.work.own a.work.task a.work.frame a.work.idle.0 a.work.idle.1 a.work.stands ties x x2 counts hands numbers there belongs room,
    )
