-- What the events that give values back do to the parts.
use Rattle.std.specs.Prelude.{◌≡◌, ℕ, ◌++◌, List, Option, Some}
use Rattle.vch_base.specs.declared.key.Key.{Key}
use Rattle.vch_base.specs.Keys.{number_of}
use Rattle.vch_base.specs.Keyed.{Keyed, of_key, with_key}
use Rattle.vch_base.specs.Managers.{Kept}
use Rattle.vch_entry.specs.Entries.{Entries}
use Rattle.vch_value.specs.Flight.{Claim, Asked}
use Rattle.vch_table.specs.Indices.{Bounded, SetsIndex}
use Rattle.vch_model.specs.declared.call.Call.{Call}
use Rattle.vch_legal.specs.Tie.{moved_place, moved_keys}
use Rattle.vch_frame.specs.declared.frame.Claiming.{Claiming}
use Rattle.vch_frame.specs.declared.frame.KeyIndex.{KeyIndex}
use Rattle.vch_frame.specs.Indices.{index_of}
use Rattle.vch_frame.specs.Releases.{noted_release, less_room, let_at}
use Rattle.vch_frame.specs.Claims.{claiming}
use Rattle.vch_frame.specs.Tallies.{more_claims, one_asked, one_referred}
use Rattle.vch_values.specs.Parts.{KeyParts}
use Rattle.vch_parts.specs.declared.frame.Frame.{Frame}
use Rattle.vch_parts.specs.Plain.{Indices, Plain, with_frame_at, closed}

-- with other entries of a key, and with another manager
abbrev pub with_entries : Keyed KeyParts → Key → Entries → Keyed KeyParts
with_entries x k e = with_key k (record (of_key k x) { entries = e }) x

abbrev pub with_kept : Keyed KeyParts → Key → Kept → Keyed KeyParts
with_kept x k kept = with_key k (record (of_key k x) { kept = kept }) x

-- LetGo: the first of what a frame has to let go of is gone, and the frame has the claim that was taken, if one was
abbrev pub let_gone : Plain → ℕ → Frame → Key → List KeyIndex → Entries → Option Claim → Plain
let_gone c t f k ls e o = record (with_frame_at c t (closed (record f { lets = ls; claim = claiming k o }))) {
  keyed = with_entries c.keyed k e;
  tally = more_claims o c.tally;
}

-- Ask: the frame has the answer, and where the manager agreed a Released entry is noted
abbrev pub was_asked : Plain → ℕ → Frame → Key → ℕ → Kept → Asked → Plain
was_asked c t f k made kept asked = record (with_frame_at c t (Some (record f { claim = Claiming.Answered k asked }))) {
  keyed = with_kept c.keyed k kept;
  history = noted_release asked.agreed made c.history;
  spare = less_room asked.agreed c.spare;
  tally = one_asked c.tally;
}

-- Recheck: the claim is gone, or begins anew
abbrev pub rechecked : Plain → ℕ → Frame → Key → Entries → Option Claim → Plain
rechecked c t f k e o = record (with_frame_at c t (closed (record f { claim = claiming k o }))) { keyed = with_entries c.keyed k e }

-- the voucher that a frame forms has this index at a key, or none, and what stood there is to be let go of
pub record PutsIndex (k : Key) (i : Option ℕ) (v : Indices) (old new : Frame) : Type 0 where
  pub voucher : Indices
  pub bounded : Bounded voucher
  pub sets : SetsIndex v voucher (number_of k) i
  pub frame : new ≡ record old { forming = Some voucher; lets = old.lets ++ let_at k (index_of k v) }

-- a key of the call is done: the next of all keys, the next record of a create, or the next key of a send or recv
abbrev pub moved_on : ℕ → Call → Frame → Frame
moved_on version call f = record f { at = moved_place version call f.at f.keys; keys = moved_keys version call f.at f.keys }

-- Refer: the frame is another, and the entries have one reference more
abbrev pub was_referred : Plain → ℕ → Frame → Key → Entries → Plain
was_referred c t f k e = record (with_frame_at c t (Some f)) { keyed = with_entries c.keyed k e; tally = one_referred c.tally }
