-- The law of a voucher that is formed.
use Rattle.std.specs.Prelude.{ℕ, [], List, Option}
use Rattle.vch_base.specs.declared.key.Key.{Key}
use Rattle.vch_model.specs.declared.lists.Scenario.{Scenario}
use Rattle.vch_machine.specs.State as machine
use Rattle.vch_machine.specs.State.{Handles, Machine}
use Rattle.vch_machine.specs.Working.{changed_each}
use Rattle.vch_parts.specs.declared.frame.Frame.{Frame}
use Rattle.vch_parts.specs.Plain.{Indices, Plain}
use Rattle.vch_parts.specs.Stands.{StandsFor}
use Rattle.vch_moves.specs.Moments.{IsAtWork, Forms}
use Rattle.vch_moves.specs.Works.{Workspace, ChangesEach, Alters, formed, machine_formed}
use Rattle.vch_moves.proofs.working.Formed.{formed_stands}

pub vouchers_form : (sc : Scenario) (c : Plain) (m : Machine) (t : ℕ) (f : Frame) (g : machine.Frame) (u : Indices) (w : Handles)
    (becomes : Indices → Key → Option (Option ℕ)) (to : Key → Option (Option ℕ)) (ks : List Key) (new : Workspace) (at : ℕ) (more : List Key)
    → IsAtWork sc c m t f g → Forms c g u w → Alters c m w becomes to ks
    → ChangesEach becomes ks (record { keyed = c.keyed; map = u; lets = [] }) new
    → StandsFor sc (formed c t f at more new) (machine_formed m t g at more (changed_each to ks (record { forming = w; left = [] })))
vouchers_form sc c m t f g u w becomes to ks new at more a b d changes = formed_stands sc c m t a.positive a.inside a.stands f g u w a.own a.task a.frame a.idle b.forms b.map becomes to ks d.differ d.agrees d.held new changes at more
