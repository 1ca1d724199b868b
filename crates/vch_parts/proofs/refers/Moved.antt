-- A key of a call is done: the machine's frame moves on as the core's does.
use Rattle.std.proofs.Common.{◌≡◌, ◌&&◌, not, Bool, true, false, cond, [], refl, length, drop}
use Rattle.std.specs.Prelude.{ℕ, ◌+◌, ◌==◌}
use Rattle.vch_base.specs.declared.key.TheConstants.{ALL_KEYS}
use Rattle.vch_recipe.specs.Recipes.{First, One, first_of}
use Rattle.vch_model.specs.declared.call.Call.{Call}
use Rattle.vch_model.specs.declared.call.Call.TheVariants as calls
use Rattle.vch_machine.specs.State.{Frame, is_empty}
use Rattle.vch_machine.specs.Making.{moved, moved_first, keys_left, tail_keys}
use Rattle.vch_legal.specs.Tie.{moved_place, moved_keys, moved_place_first, moved_keys_first}

first_moved : (version : ℕ) (f : Frame) (first : First) → moved_first version f first ≡ record f { at_byte = moved_place_first version f.keys f.at_byte first; keys = moved_keys_first version f.keys first }
first_moved version f (One r rest) = by ((r.key == ALL_KEYS) && not (is_empty (tail_keys (keys_left version f.keys))))
  where
    by : (b : Bool) → cond b (record f { keys = tail_keys (keys_left version f.keys) }) (record f { keys = []; at_byte = f.at_byte + (16 + length r.content) })
        ≡ record f { at_byte = cond b f.at_byte (f.at_byte + (16 + length r.content)); keys = cond b (tail_keys (keys_left version f.keys)) [] }
    by true = refl
    by false = refl
first_moved version f First.End = refl
first_moved version f (First.HeaderCut left) = refl
first_moved version f (First.ContentCut wanted left) = refl

pub moved_is : (version : ℕ) (call : Call) (f : Frame) → moved version call f ≡ record f { at_byte = moved_place version call f.at_byte f.keys; keys = moved_keys version call f.at_byte f.keys }
moved_is version (calls.Create bytes) f = first_moved version f (first_of (drop f.at_byte bytes))
moved_is version (calls.GiveUp name) f = refl
moved_is version (calls.Extract name key) f = refl
moved_is version (calls.Recipes name) f = refl
moved_is version (calls.Send to moving name id) f = refl
moved_is version calls.Recv f = refl
moved_is version (calls.Extern name adding n) f = refl
moved_is version (calls.Charge name n) f = refl
moved_is version calls.Ledger f = refl
moved_is version calls.Assertions f = refl
moved_is version calls.Live f = refl
moved_is version calls.Exit f = refl
