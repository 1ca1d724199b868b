-- From what the code does to the parts as a call begins with a frame, to plain data.
use Rattle.std.proofs.Common.{◌≡◌, ℕ, ◌+◌, ◌-◌, ◌<◌, ◌≤◌, true, List, [], ◌∷◌, ◌++◌, refl, arith, sym, ap, ◌∙◌, subst, length, append-nil, Option, Some}
use Rattle.vch_base.specs.Tasks.{set_task}
use Rattle.vch_base.proofs.CallerLemmas.{as_long, own_item, set_twice}
use Rattle.vch_bounds.specs.Spent.{begun_in}
use Rattle.vch_bounds.proofs.CallerLemmas.{one_of_all}
use Rattle.vch_model.specs.Lines.{is_task}
use Rattle.vch_model.specs.Rows.{Entries}
use Rattle.vch_model.specs.declared.entry.Entry.{Entry}
use Rattle.vch_machine.specs.State.{tasked, idle}
use Rattle.vch_vouchers.specs.Desks.{Desk}
use Rattle.vch_parts.specs.declared.frame.Frame.{Frame}
use Rattle.vch_parts.specs.declared.frames.Working.{Working}
use Rattle.vch_parts.specs.declared.parts.Parts.{Parts}
use Rattle.vch_parts.specs.Framed.{resting, frame_of, begun_of, with_frame_of, with_begun_of}
use Rattle.vch_parts.specs.Plain.{Part, part_of, with_frame}
use Rattle.vch_parts.specs.Reached.{plain_of, parts_in, Reached}
use Rattle.vch_parts.proofs.CallerLemmas.{in_parts, own_begun, numbers_of, task_inside, set_sides}
use Rattle.vch_moves.specs.Desks.{desk_of}
use Rattle.vch_moves.specs.Steps.{stepped, opened, begun_one}
use Rattle.vch_moves.proofs.happening.Putting.{range, own_desk, own_work, put_same}

module _ (p : Parts) (t : ℕ) (reached : Reached p) (task : is_task p.scenario t ≡ true) where
  abbrev X : Part
  X = part_of (plain_of p) t

  -- a task has begun few calls
  pub begun_few : begun_of p.frames t < 4294967295
  begun_few = numbers_of p _ reached (λ m s ties n.
      let i = in_parts p.scenario (plain_of p) m t s ties task in
      let a : (tasked m t).begun ≤ 1048576 = below (tasked m t).begun _ (one_of_all begun_in m.tasks t idle refl) n.begun in
      let b : begun_of p.frames t ≡ (tasked m t).begun = sym (own_begun p t reached task) ∙ (s.shape.tasks t i.0 i.1).begun in
      omega (arith, a, b))
    where
      below : (a b : ℕ) → a ≤ b → b ≤ 1048576 → a ≤ 1048576
      below a b i j = omega (arith, i, j)

  -- a task that begins a call is still in range
  pub begun_range : (fs2 : List Working) → fs2 ≡ with_begun_of p.frames t → (0 < t) × (t ≤ length fs2)
  begun_range fs2 e =
      let n = task_inside p t reached task in
      (n.0, subst (λ k. t ≤ k) (sym (ap length e ∙ as_long p.frames t (record { begun = begun_of p.frames t + 1; frame = frame_of p.frames t }))) n.1)

  begun_put : (fs2 : List Working) (f : Option Frame) → fs2 ≡ with_frame_of (with_begun_of p.frames t) t f → fs2 ≡ set_task p.frames t (record { begun = X.begun + 1; frame = f })
  begun_put fs2 f e =
      let n = task_inside p t reached task in
      let w : Working = record { begun = begun_of p.frames t + 1; frame = frame_of p.frames t } in
      e ∙ (ap (λ (x : Working). set_task (set_task p.frames t w) t (record x { frame = f })) (own_item p.frames t w resting n.0 n.1)
      ∙ (set_twice p.frames t w (record w { frame = f }) ∙ ap (λ (x : Working). set_task p.frames t (record { begun = x.begun + 1; frame = f })) (own_work p t reached task)))

  tasks_begun : (ds2 : List Desk) (x : Part) → ds2 ≡ set_task p.vouchers t (desk_of x) → x.begun ≡ X.begun + 1
      → (fs2 : List Working) (f : Option Frame) → fs2 ≡ with_frame_of (with_begun_of p.frames t) t f
      → parts_in ds2 fs2 ≡ set_task (parts_in p.vouchers p.frames) t (with_frame x f)
  tasks_begun ds2 x desks begun fs2 f frames =
      ap (parts_in ds2) (begun_put fs2 f frames) ∙ (ap (λ ds. parts_in ds (set_task p.frames t (record { begun = X.begun + 1; frame = f }))) desks
      ∙ (set_sides p.vouchers p.frames t (desk_of x) (record { begun = X.begun + 1; frame = f }) (range p t reached task).0
      ∙ ap (λ n. set_task (parts_in p.vouchers p.frames) t (record (with_frame x f) { begun = n })) (sym begun)))

  plain_is : (a b : List Part) (d e : List Entry) (i j : ℕ) → a ≡ b → d ≡ e → i ≡ j → record (plain_of p) { tasks = a; history = d; spare = i } ≡ record (plain_of p) { tasks = b; history = e; spare = j }
  plain_is a b d e i j q r s = rw (q, r, s) refl

  less_one : (a b : ℕ) → a + 1 ≡ b → a ≡ b - 1
  less_one a b e = omega (arith, e)

  none_less : (n : ℕ) → n ≡ n - 0
  none_less n = omega arith

  -- a call begins with another desk and a frame, and an entry is noted
  pub stepped_begun : (ds2 : List Desk) (x : Part) → ds2 ≡ set_task p.vouchers t (desk_of x) → x.begun ≡ X.begun + 1
      → (fs2 : List Working) (f : Option Frame) → fs2 ≡ with_frame_of (with_begun_of p.frames t) t f
      → (h2 : Entries) (e : Entry) → h2.entries ≡ p.history.entries ++ e ∷ [] → h2.spare + 1 ≡ p.history.spare
      → plain_of (record p { vouchers = ds2; frames = fs2; history = h2 }) ≡ stepped (plain_of p) t (with_frame x f) (Some e)
  stepped_begun ds2 x desks begun fs2 f frames h2 e noted less =
      plain_is (parts_in ds2 fs2) (set_task (parts_in p.vouchers p.frames) t (with_frame x f)) h2.entries (p.history.entries ++ e ∷ []) h2.spare (p.history.spare - 1)
      (tasks_begun ds2 x desks begun fs2 f frames) noted (less_one h2.spare p.history.spare less)

  -- a call begins with a frame, and nothing is noted
  pub opened_is : (fs2 : List Working) (f : Frame) → fs2 ≡ with_frame_of (with_begun_of p.frames t) t (Some f) → plain_of (record p { frames = fs2 }) ≡ opened (plain_of p) t f
  opened_is fs2 f e =
      plain_is (parts_in p.vouchers fs2) (set_task (parts_in p.vouchers p.frames) t (with_frame (begun_one X) (Some f))) p.history.entries (p.history.entries ++ []) p.history.spare (p.history.spare - 0)
      (tasks_begun p.vouchers (begun_one X) (sym (put_same p t reached task) ∙ ap (λ (d : Desk). set_task p.vouchers t d) (own_desk p t reached task)) refl fs2 (Some f) e)
      (sym (append-nil p.history.entries)) (none_less p.history.spare)
