-- From what the code does to the parts, to plain data: a task of the scenario.
use Rattle.std.proofs.Common.{◌≡◌, ℕ, ◌+◌, ◌-◌, ◌<◌, true, List, [], ◌∷◌, ◌++◌, length, Option, Some, None}
use Rattle.vch_base.specs.Tasks.{set_task}
use Rattle.vch_model.specs.Lines.{is_task}
use Rattle.vch_model.specs.Rows.{Entries}
use Rattle.vch_model.specs.declared.entry.Entry.{Entry}
use Rattle.vch_vouchers.specs.Desks.{Desk, desk}
use Rattle.vch_parts.specs.declared.frame.Frame.{Frame}
use Rattle.vch_parts.specs.declared.frames.Working.{Working}
use Rattle.vch_parts.specs.declared.parts.Parts.{Parts}
use Rattle.vch_parts.specs.Framed.{working_of, with_frame_of}
use Rattle.vch_parts.specs.Plain.{Part, part_of, with_frame}
use Rattle.vch_parts.specs.Reached.{plain_of, parts_in, Reached}
use Rattle.vch_parts.proofs.CallerLemmas.{in_parts, from_end}
use Rattle.vch_moves.specs.Desks.{desk_of, desks_of}
use Rattle.vch_moves.specs.Steps.{stepped}
use Rattle.vch_carry.proofs.glue.Places as places

module _ (p : Parts) (t : ℕ) (reached : Reached p) (task : is_task p.scenario t ≡ true) where
  abbrev X : Part
  X = part_of (plain_of p) t

  pub range : (0 < t) × (t - 1 < length (parts_in p.vouchers p.frames))
  range = from_end p.scenario (plain_of p) _ reached.end (λ m s ties. in_parts p.scenario (plain_of p) m t s ties task)

  pub own_desk : desk p.vouchers t ≡ desk_of X
  own_desk = places.own_desk p t range

  pub own_work : working_of p.frames t ≡ record { begun = X.begun; frame = X.frame }
  own_work = places.own_work p t range

  pub all_desks : desks_of (plain_of p).tasks ≡ p.vouchers
  all_desks = places.all_desks p t range

  pub desks_then : (x : Part) (ds2 : List Desk) → ds2 ≡ set_task p.vouchers t (desk_of x) → desks_of (set_task (plain_of p).tasks t x) ≡ ds2
  desks_then = places.desks_then p t range

  pub put_same : set_task p.vouchers t (desk p.vouchers t) ≡ p.vouchers
  put_same = places.put_same p t range

  pub stepped_is : (ds2 : List Desk) (x : Part) → ds2 ≡ set_task p.vouchers t (desk_of x) → x.begun ≡ X.begun
      → (fs2 : List Working) (f : Option Frame) → fs2 ≡ with_frame_of (with_frame_of p.frames t None) t f
      → (h2 : Entries) (e : Entry) → h2.entries ≡ p.history.entries ++ e ∷ [] → h2.spare + 1 ≡ p.history.spare
      → plain_of (record p { vouchers = ds2; frames = fs2; history = h2 }) ≡ stepped (plain_of p) t (with_frame x f) (Some e)
  stepped_is = places.stepped_is p t range
