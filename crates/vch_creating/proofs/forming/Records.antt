-- A record by indices and by handles: what the core reads of it is what the machine makes of it.
use Rattle.std.proofs.Common.{◌≡◌, ℕ, ◌==◌, not, Bool, true, false, cond, List, [], refl, length, Option, Some, None, Result, Ok, Err}
use Rattle.std.specs.Prelude.{ℤ}
use Rattle.vch_base.specs.declared.fault.Code.{Code}
use Rattle.vch_base.specs.declared.key.Key.{Key}
use Rattle.vch_base.specs.Keys.{key_of}
use Rattle.vch_base.specs.Keyed.{Keyed}
use Rattle.vch_base.specs.declared.key.TheConstants.{ALL_KEYS}
use Rattle.vch_base.specs.declared.commands.TheConstants as commands
use Rattle.vch_model.specs.Eval.{is_core_command, is_plain_command}
use Rattle.vch_recipe.specs.declared.recipe.Recipe.{Recipe}
use Rattle.vch_recipe.specs.Recipes.{First, One}
use Rattle.vch_machine.specs.State.{Handles, Named}
use Rattle.vch_machine.specs.Naming.{handles_of}
use Rattle.vch_machine.specs.Working.{WorkDone, changed_at, changed_each, changed_keys, copies, removes, copied, worked, worked_with, work_first}
use Rattle.vch_frame.specs.Pairs.{Optional}
use Rattle.vch_values.specs.Parts.{KeyParts}
use Rattle.vch_parts.specs.Plain.{Indices}
use Rattle.vch_parts.specs.Shape.{IsMap}
use Rattle.vch_creating.specs.declared.change.Deed.{Deed}
use Rattle.vch_creating.specs.declared.change.Deed.TheVariants as deeds
use Rattle.vch_creating.specs.declared.change.Change.{Change}
use Rattle.vch_creating.specs.declared.change.AtKeys.TheVariants as at
use Rattle.vch_creating.specs.Changing.{keys_in}
use Rattle.vch_creating.specs.Reading.{one_key, keys_named, change_at, copy_at, change_of, change_found, first_change}
use Rattle.vch_creating.proofs.forming.Deeds.{DeedIs}

module _ (version : ℕ) (x : Keyed KeyParts) (w : Handles) where
  -- before the record
  abbrev pub unworked : WorkDone
  unworked = record { forming = w; left = [] }

  -- the machine's change is that of the deed
  pub record IsDone (y : Change) (z : WorkDone) : Type 0 where
    pub by : Key → Option (Option ℕ)
    pub is : DeedIs x w y.deed by
    pub result : z ≡ changed_each by (keys_in version y.keys) unworked

  abbrev pub Answers : Result (Option Change) Code → Result WorkDone ℤ → Type 0
  Answers (Err e) (Err n) = e.number ≡ n
  Answers (Ok None) (Ok z) = z ≡ unworked
  Answers (Ok (Some y)) (Ok z) = IsDone y z
  Answers r z = ⊥

  answers_if : (b : Bool) (r s : Result (Option Change) Code) (p q : Result WorkDone ℤ) → Answers r p → Answers s q → Answers (cond b r s) (cond b p q)
  answers_if true r s p q g h = g
  answers_if false r s p q g h = h

  key_answers : (key : ℕ) (deed : Deed) (f : Key → Option (Option ℕ)) → DeedIs x w deed f → Answers (change_at (keys_named version key) deed) (changed_keys version f key unworked)
  key_answers key deed f d = by (key == ALL_KEYS) (key_of version key)
    where
      by : (b : Bool) (o : Option Key) → Answers (change_at (cond b (Some at.All) (one_key o)) deed) (cond b (Ok (changed_each f (keys_in version at.All) unworked)) (changed_at f o unworked))
      by true o = record { by = f; is = d; result = refl }
      by false None = refl
      by false (Some k) = record { by = f; is = d; result = refl }

  copy_answers : (key : ℕ) (v : Option Indices) (u : Option Handles) → Optional (IsMap x) v u → Answers (copy_at version key v) (copied version u key unworked)
  copy_answers key None None m = refl
  copy_answers key (Some v) (Some u) m = key_answers key (deeds.Copy v) (copies (Some u) w) (u, m, λ k. refl)
  copy_answers key None (Some u) m = absurd m
  copy_answers key (Some v) None m = absurd m

  remove_answers : (key : ℕ) (v : Option Indices) (u : Option Handles) → Optional (IsMap x) v u → Answers (change_at (keys_named version key) (deeds.Remove v)) (changed_keys version (removes u w) key unworked)
  remove_answers key None None m = key_answers key (deeds.Remove None) (removes None w) (λ k. refl)
  remove_answers key (Some v) (Some u) m = key_answers key (deeds.Remove (Some v)) (removes (Some u) w) (u, m, λ k. refl)
  remove_answers key None (Some u) m = absurd m
  remove_answers key (Some v) None m = absurd m

  record_answers : (r : Recipe) (v : Option Indices) (u : Option Handles) → Optional (IsMap x) v u → Answers (change_of version r.command r.key (length r.content) v) (worked version r u unworked)
  record_answers r v u m =
      answers_if (is_core_command r.command) _ _ _ _ refl
      (answers_if (is_plain_command r.command) _ _ _ _
      (answers_if (not (length r.content == 0)) _ _ _ _ refl
      (answers_if (r.command == commands.NOOP) _ _ _ _ refl
      (answers_if (r.command == commands.COPY) _ _ _ _ (copy_answers r.key v u m) (remove_answers r.key v u m))))
      refl)

  found_answers : (r : Recipe) (v : Option Indices) (u : Option Handles) → Optional (IsMap x) v u → Answers (change_found version r.command r.key (length r.content) v) (worked_with version r u unworked)
  found_answers r None None m = refl
  found_answers r (Some v) (Some u) m = record_answers r (Some v) (Some u) m
  found_answers r None (Some u) m = absurd m
  found_answers r (Some v) None m = absurd m

  -- the names have the vouchers that the machine's have
  pub first_answers : (names : ℕ → Option Indices) (os : List Named) → ((name : ℕ) → Optional (IsMap x) (names name) (handles_of os name)) → (first : First) → Answers (first_change version names first) (work_first version os first w)
  first_answers names os same (One r rest) = answers_if (r.previous == 0) _ _ _ _ (record_answers r None None tt) (found_answers r (names r.previous) (handles_of os r.previous) (same r.previous))
  first_answers names os same First.End = refl
  first_answers names os same (First.HeaderCut left) = refl
  first_answers names os same (First.ContentCut wanted left) = refl
