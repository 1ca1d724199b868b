-- From what the code does to the parts, to plain data: a task that is in range.
use Rattle.std.proofs.Common.{◌≡◌, ℕ, zero, suc, ◌+◌, ◌-◌, ◌<◌, ◌≤◌, List, [], ◌∷◌, ◌++◌, refl, arith, sym, ap, ◌∙◌, length, map, get_or, Option, Some, None}
use Rattle.std.proofs.Math.ListN.{set}
use Rattle.vch_base.specs.Tasks.{set_task}
use Rattle.vch_base.proofs.CallerLemmas.{own_item, set_twice}
use Rattle.vch_model.specs.Rows.{Entries}
use Rattle.vch_model.specs.declared.entry.Entry.{Entry}
use Rattle.vch_vouchers.specs.Desks.{Desk, desk, empty_desk}
use Rattle.vch_parts.specs.declared.frame.Frame.{Frame}
use Rattle.vch_parts.specs.declared.frames.Working.{Working}
use Rattle.vch_parts.specs.declared.parts.Parts.{Parts}
use Rattle.vch_parts.specs.Framed.{resting, working_of, with_frame_of}
use Rattle.vch_parts.specs.Plain.{Part, part_of, with_frame}
use Rattle.vch_parts.specs.Reached.{plain_of, part_in, parts_in}
use Rattle.vch_parts.proofs.CallerLemmas.{as_many_desks, side_at, set_sides, desks_again, as_many_parts}
use Rattle.vch_moves.specs.Desks.{desk_of, desks_of}
use Rattle.vch_moves.specs.Steps.{stepped}

-- the desk of one task among all
desks_set : (xs : List Part) (i : ℕ) (x : Part) → map desk_of (set xs i x) ≡ set (map desk_of xs) i (desk_of x)
desks_set [] i x = refl
desks_set (y ∷ xs) zero x = refl
desks_set (y ∷ xs) (suc i) x = ap (λ ds. desk_of y ∷ ds) (desks_set xs i x)

pub desks_put : (xs : List Part) (t : ℕ) (x : Part) → desks_of (set_task xs t x) ≡ set_task (desks_of xs) t (desk_of x)
desks_put xs zero x = refl
desks_put xs (suc i) x = desks_set xs i x

same_set : (ds : List Desk) (i : ℕ) → i < length ds → set ds i (get_or ds i (empty_desk 0)) ≡ ds
same_set [] i l = refl
same_set (d ∷ ds) zero l = refl
same_set (d ∷ ds) (suc i) l = ap (λ es. d ∷ es) (same_set ds i (omega (arith, l)))

same_put : (ds : List Desk) (t : ℕ) → 0 < t → t - 1 < length ds → set_task ds t (desk ds t) ≡ ds
same_put ds zero p l = refl
same_put ds (suc i) p l = same_set ds i (omega (arith, l))

less_one : (a b : ℕ) → a + 1 ≡ b → a ≡ b - 1
less_one a b e = omega (arith, e)

module _ (p : Parts) (t : ℕ) (range : (0 < t) × (t - 1 < length (parts_in p.vouchers p.frames))) where
  abbrev X : Part
  X = part_of (plain_of p) t

  task_inside : (0 < t) × (t ≤ length p.frames)
  task_inside = let n = as_many_parts p.vouchers p.frames in let z = range.1 in (range.0, omega (arith, range.0, n, z))

  pub own_part : X ≡ part_in (desk p.vouchers t) (working_of p.frames t)
  own_part = side_at p.vouchers p.frames t range.0 range.1

  pub own_desk : desk p.vouchers t ≡ desk_of X
  own_desk = sym (ap desk_of own_part)

  pub own_work : working_of p.frames t ≡ record { begun = X.begun; frame = X.frame }
  own_work = sym (ap (λ (x : Part). record { begun = x.begun; frame = x.frame }) own_part)

  -- the desks of all tasks
  pub all_desks : desks_of (plain_of p).tasks ≡ p.vouchers
  all_desks = desks_again p.vouchers p.frames (t - 1) range.1

  -- with another desk of one
  pub desks_then : (x : Part) (ds2 : List Desk) → ds2 ≡ set_task p.vouchers t (desk_of x) → desks_of (set_task (plain_of p).tasks t x) ≡ ds2
  desks_then x ds2 e = desks_put (plain_of p).tasks t x ∙ (ap (λ ds. set_task ds t (desk_of x)) all_desks ∙ sym e)

  -- the desk that is there is put again
  pub put_same : set_task p.vouchers t (desk p.vouchers t) ≡ p.vouchers
  put_same = same_put p.vouchers t range.0 inside_desks
    where
      inside_desks : t - 1 < length p.vouchers
      inside_desks = let n = as_many_desks p.vouchers p.frames in let r = range.1 in omega (arith, n, r)

  -- frames of which one was taken and another put
  taken_put : (fs2 : List Working) (f : Option Frame) → fs2 ≡ with_frame_of (with_frame_of p.frames t None) t f → fs2 ≡ set_task p.frames t (record { begun = X.begun; frame = f })
  taken_put fs2 f e =
      let n = task_inside in
      let w : Working = record (working_of p.frames t) { frame = None } in
      e ∙ (ap (λ (x : Working). set_task (set_task p.frames t w) t (record x { frame = f })) (own_item p.frames t w resting n.0 n.1)
      ∙ (set_twice p.frames t w (record w { frame = f }) ∙ ap (λ (x : Working). set_task p.frames t (record { begun = x.begun; frame = f })) own_work))

  pub tasks_put : (ds2 : List Desk) (x : Part) → ds2 ≡ set_task p.vouchers t (desk_of x) → x.begun ≡ X.begun
      → (fs2 : List Working) (f : Option Frame) → fs2 ≡ with_frame_of (with_frame_of p.frames t None) t f
      → parts_in ds2 fs2 ≡ set_task (parts_in p.vouchers p.frames) t (with_frame x f)
  tasks_put ds2 x desks begun fs2 f frames =
      ap (parts_in ds2) (taken_put fs2 f frames) ∙ (ap (λ ds. parts_in ds (set_task p.frames t (record { begun = X.begun; frame = f }))) desks
      ∙ (set_sides p.vouchers p.frames t (desk_of x) (record { begun = X.begun; frame = f }) range.0
      ∙ ap (λ n. set_task (parts_in p.vouchers p.frames) t (record (with_frame x f) { begun = n })) (sym begun)))

  -- one task is another, and an entry is noted
  plain_is : (a b : List Part) (d e : List Entry) (i j : ℕ) → a ≡ b → d ≡ e → i ≡ j → record (plain_of p) { tasks = a; history = d; spare = i } ≡ record (plain_of p) { tasks = b; history = e; spare = j }
  plain_is a b d e i j q r s = rw (q, r, s) refl

  pub stepped_is : (ds2 : List Desk) (x : Part) → ds2 ≡ set_task p.vouchers t (desk_of x) → x.begun ≡ X.begun
      → (fs2 : List Working) (f : Option Frame) → fs2 ≡ with_frame_of (with_frame_of p.frames t None) t f
      → (h2 : Entries) (e : Entry) → h2.entries ≡ p.history.entries ++ e ∷ [] → h2.spare + 1 ≡ p.history.spare
      → plain_of (record p { vouchers = ds2; frames = fs2; history = h2 }) ≡ stepped (plain_of p) t (with_frame x f) (Some e)
  stepped_is ds2 x desks begun fs2 f frames h2 e noted less =
      plain_is (parts_in ds2 fs2) (set_task (parts_in p.vouchers p.frames) t (with_frame x f)) h2.entries (p.history.entries ++ e ∷ []) h2.spare (p.history.spare - 1)
      (tasks_put ds2 x desks begun fs2 f frames) noted (less_one h2.spare p.history.spare less)
