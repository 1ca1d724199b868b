-- The events of a call that is under way: Work, Make and Place, by what the parts have.
use Rattle.std.proofs.Common.{◌≡◌, ℕ, ◌-◌, ◌<◌, nat_lt, not, Bool, true, false, List, [], ◌∷◌, refl, arith, sym, ap, ◌∙◌, subst, length, Option, Some, None}
use Rattle.vch_base.specs.declared.codes.TheConstants.{KERN_RESOURCE_SHORTAGE, MACH_SEND_TIMED_OUT}
use Rattle.vch_base.specs.declared.kind.Kind.{Kind}
use Rattle.vch_base.specs.declared.kind.Kind.TheVariants as kinds
use Rattle.vch_base.specs.Keyed.{Keyed}
use Rattle.vch_model.specs.Lines.{is_task}
use Rattle.vch_model.specs.declared.call.Call.{Call}
use Rattle.vch_model.specs.declared.call.Call.TheVariants as calls
use Rattle.vch_model.specs.declared.lists.Scenario.{Scenario}
use Rattle.vch_machine.specs.Beginning.{is_full}
use Rattle.vch_machine.specs.Events.{event, work_event, on_formed}
use Rattle.vch_machine.specs.Frames.{refuse}
use Rattle.vch_machine.specs.Making.{do_make}
use Rattle.vch_machine.specs.Naming as naming
use Rattle.vch_machine.specs.Next.{nth_call, current}
use Rattle.vch_machine.specs.Placing.{do_place, place_send}
use Rattle.vch_machine.specs.State as machine
use Rattle.vch_machine.specs.State.{Handles, Machine, tasked}
use Rattle.vch_machine.specs.Working.{do_work, do_exit, exit_names, exit_queue, do_gone, do_lost, do_left}
use Rattle.vch_legal.specs.Tie.{Ties}
use Rattle.vch_frame.specs.Pairs.{Pairwise}
use Rattle.vch_values.specs.Parts.{KeyParts}
use Rattle.vch_vouchers.specs.Desks.{lowest}
use Rattle.vch_vouchers.specs.declared.answers.Message.{Message}
use Rattle.vch_parts.specs.declared.frame.Frame.{Frame}
use Rattle.vch_parts.specs.Plain.{Plain, Indices, part_of}
use Rattle.vch_parts.specs.Shape.{IsMessage}
use Rattle.vch_parts.specs.Stands.{StandsFor}
use Rattle.vch_parts.proofs.CallerLemmas.{Happens, in_parts}
use Rattle.vch_moves.specs.Moments.{Forms}
use Rattle.vch_moves.proofs.desks.Names.{lowest_is}
use Rattle.vch_moves.proofs.happening.Calls.{AtCall, own_event}

-- a call is under way, and it is this one
one_call : {a b : Call} → Some a ≡ Some b → a ≡ b
one_call e = cc

pub is_call : (sc : Scenario) (c : Plain) (m : Machine) (t : ℕ) (f : Frame) (g : machine.Frame) (kind : Kind) (call : Call) (a : AtCall sc c m t f g kind) → nth_call sc t (part_of c t).begun ≡ Some call → current sc m t ≡ Some call
is_call sc c m t f g kind call a e = a.current_is ∙ (sym a.begun ∙ e)

formed_is : (o : Handles → Call → Option Machine) (v : Option Handles) (call : Option Call) (w : Handles) (x : Call) → v ≡ Some w → call ≡ Some x → on_formed o v call ≡ o w x
formed_is o v call w x e q = rw (e, q) refl

module _ (sc : Scenario) (c : Plain) (m : Machine) (t : ℕ) (f : Frame) (g : machine.Frame) (task : is_task sc t ≡ true) where
  -- the end of each of them: the state that the machine's event leaves
  pub call_happens : (kind : Kind) (want : Bool) (o : Option Machine) (n : Machine) (d : Plain) → AtCall sc c m t f g kind → event sc want m t ≡ o → o ≡ Some n → StandsFor sc d n → Happens sc want kind t d m
  call_happens kind want o n d a e q stands = (n, e ∙ q, a.next, stands)

  module _ (want : Bool) (u : Indices) (w : Handles) (call : Call) (forms : Forms c g u w) (there : nth_call sc t (part_of c t).begun ≡ Some call) where
    pub make_event : AtCall sc c m t f g kinds.Make → event sc want m t ≡ do_make sc want m t g w call
    make_event a = own_event sc c m t f g kinds.Make want (do_make sc want m t g w call) task a
        (formed_is (λ v x. do_make sc want m t g v x) g.forming (current sc m t) w call forms.forms (is_call sc c m t f g kinds.Make call a there))

    pub place_event : AtCall sc c m t f g kinds.Place → event sc want m t ≡ do_place sc want m t g w call
    place_event a = own_event sc c m t f g kinds.Place want (do_place sc want m t g w call) task a
        (formed_is (λ v x. do_place sc want m t g v x) g.forming (current sc m t) w call forms.forms (is_call sc c m t f g kinds.Place call a there))

  -- Work of a create
  pub work_is_done : (want : Bool) (u : Indices) (w : Handles) (bytes : List ℕ) → Forms c g u w → nth_call sc t (part_of c t).begun ≡ Some (calls.Create bytes) → AtCall sc c m t f g kinds.Work
      → event sc want m t ≡ Some (do_work sc.version m t g w (calls.Create bytes))
  work_is_done want u w bytes forms there a = own_event sc c m t f g kinds.Work want (Some (do_work sc.version m t g w (calls.Create bytes))) task a
      (ap (work_event sc.version m t g) (is_call sc c m t f g kinds.Work (calls.Create bytes) a there)
      ∙ ap (λ o. on_formed (λ v x. Some (do_work sc.version m t g v x)) o (Some (calls.Create bytes))) forms.forms)

  -- Work of an exit
  module _ (want : Bool) (there : nth_call sc t (part_of c t).begun ≡ Some calls.Exit) (a : AtCall sc c m t f g kinds.Work) where
    pub exit_event : event sc want m t ≡ Some (do_exit m t g)
    exit_event = own_event sc c m t f g kinds.Work want (Some (do_exit m t g)) task a
        (ap (work_event sc.version m t g) (is_call sc c m t f g kinds.Work calls.Exit a there))

    lowest_same : naming.lowest (tasked m t).names ≡ lowest (part_of c t).names
    lowest_same = sym (lowest_is c.keyed (part_of c t).names (tasked m t).names (a.work.stands.shape.tasks t a.work.positive a.work.inside).names)

    pub exit_name : (name : ℕ) → lowest (part_of c t).names ≡ Some name → event sc want m t ≡ Some (do_gone m t g name)
    exit_name name e = exit_event ∙ ap (λ o. Some (exit_names m t g o)) (lowest_same ∙ e)

    nameless : lowest (part_of c t).names ≡ None → event sc want m t ≡ Some (exit_queue m t g (tasked m t).queue)
    nameless e = exit_event ∙ ap (λ o. Some (exit_names m t g o)) (lowest_same ∙ e)

    pub exit_message : (q : Message) (queue : List Message) (P : Type 0) → lowest (part_of c t).names ≡ None → (part_of c t).queue ≡ q ∷ queue
        → ((r : machine.Message) (rest : List machine.Message) → (tasked m t).queue ≡ r ∷ rest → IsMessage c.keyed q r → Pairwise (IsMessage c.keyed) queue rest
        → event sc want m t ≡ Some (do_lost m t g r rest) → P) → P
    exit_message q queue P e first h = by (tasked m t).queue refl (subst (λ qs. Pairwise (IsMessage c.keyed) qs (tasked m t).queue) first (a.work.stands.shape.tasks t a.work.positive a.work.inside).queue)
      where
        by : (rs : List machine.Message) → (tasked m t).queue ≡ rs → Pairwise (IsMessage c.keyed) (q ∷ queue) rs → P
        by [] x z = absurd z
        by (r ∷ rest) x z = h r rest x z.0 z.1 (nameless e ∙ ap (λ rs. Some (exit_queue m t g rs)) x)

    pub exit_left : lowest (part_of c t).names ≡ None → (part_of c t).queue ≡ [] → event sc want m t ≡ Some (do_left m t g)
    exit_left e empty = nameless e ∙ ap (λ rs. Some (exit_queue m t g rs)) (none (tasked m t).queue (subst (λ qs. Pairwise (IsMessage c.keyed) qs (tasked m t).queue) empty (a.work.stands.shape.tasks t a.work.positive a.work.inside).queue))
      where
        none : (rs : List machine.Message) → Pairwise (IsMessage c.keyed) [] rs → rs ≡ []
        none [] z = refl
        none (r ∷ rest) z = absurd z

-- The first message of a task, on both sides.

pub first_message : (sc : Scenario) (c : Plain) (m : Machine) (t : ℕ) (q : Message) (queue : List Message) (P : Type 0) → StandsFor sc c m → 0 < t → t - 1 < length c.tasks → (part_of c t).queue ≡ q ∷ queue
    → ((r : machine.Message) (rest : List machine.Message) → (tasked m t).queue ≡ r ∷ rest → IsMessage c.keyed q r → Pairwise (IsMessage c.keyed) queue rest → P) → P
first_message sc c m t q queue P s positive inside first h = by (tasked m t).queue refl (subst (λ qs. Pairwise (IsMessage c.keyed) qs (tasked m t).queue) first (s.shape.tasks t positive inside).queue)
  where
    by : (rs : List machine.Message) → (tasked m t).queue ≡ rs → Pairwise (IsMessage c.keyed) (q ∷ queue) rs → P
    by [] x z = absurd z
    by (r ∷ rest) x z = h r rest x z.0 z.1

pub no_message : (sc : Scenario) (c : Plain) (m : Machine) (t : ℕ) → StandsFor sc c m → 0 < t → t - 1 < length c.tasks → (part_of c t).queue ≡ [] → (tasked m t).queue ≡ []
no_message sc c m t s positive inside empty = by (tasked m t).queue (subst (λ qs. Pairwise (IsMessage c.keyed) qs (tasked m t).queue) empty (s.shape.tasks t positive inside).queue)
  where
    by : (rs : List machine.Message) → Pairwise (IsMessage c.keyed) [] rs → rs ≡ []
    by [] z = refl
    by (r ∷ rest) z = absurd z

-- Whether a queue is full, in the core and in the machine.

as_many : (x : Keyed KeyParts) (qs : List Message) (rs : List machine.Message) → Pairwise (IsMessage x) qs rs → length qs ≡ length rs
as_many x [] [] z = refl
as_many x [] (r ∷ rs) z = absurd z
as_many x (q ∷ qs) [] z = absurd z
as_many x (q ∷ qs) (r ∷ rs) z = let e : length qs ≡ length rs = as_many x qs rs z.1 in omega (arith, e)

module _ (sc : Scenario) (c : Plain) (m : Machine) (to : ℕ) (s : StandsFor sc c m) (positive : 0 < to) (inside : to - 1 < length c.tasks) where
  full_same : is_full sc m to ≡ not (nat_lt (length (part_of c to).queue) (part_of c to).limit)
  full_same = rw (← as_many c.keyed (part_of c to).queue (tasked m to).queue (s.shape.tasks to positive inside).queue, ← s.shape.limits to positive inside) refl

  pub full_queue : length (part_of c to).queue ≡ (part_of c to).limit → is_full sc m to ≡ true
  full_queue e = full_same ∙ ap not (least (length (part_of c to).queue) (part_of c to).limit e)
    where
      least : (a b : ℕ) → a ≡ b → nat_lt a b ≡ false
      least a b e = grind arith

  pub room_in_queue : length (part_of c to).queue < (part_of c to).limit → is_full sc m to ≡ false
  room_in_queue e = full_same ∙ ap not (more (length (part_of c to).queue) (part_of c to).limit e)
    where
      more : (a b : ℕ) → a < b → nat_lt a b ≡ true
      more a b e = grind arith

-- What Place does of a send. That of a create and of a recv computes.

module _ (sc : Scenario) (m : Machine) (t : ℕ) (g : machine.Frame) (w : Handles) where
  pub send_too_many : (want : Bool) (to : ℕ) (moving : Bool) (name id : ℕ) → is_full sc m to ≡ true
      → do_place sc want m t g w (calls.Send to moving name id) ≡ Some (refuse m t g (calls.Send to moving name id) MACH_SEND_TIMED_OUT)
  send_too_many want to moving name id e = rw e refl

  pub send_wanting : (to : ℕ) (moving : Bool) (name id : ℕ) → is_full sc m to ≡ false
      → do_place sc true m t g w (calls.Send to moving name id) ≡ Some (refuse m t g (calls.Send to moving name id) KERN_RESOURCE_SHORTAGE)
  send_wanting to moving name id e = rw e refl

  pub send_placed : (to : ℕ) (moving : Bool) (name id : ℕ) → is_full sc m to ≡ false
      → do_place sc false m t g w (calls.Send to moving name id) ≡ Some (place_send m t g w (calls.Send to moving name id) to moving name id)
  send_placed to moving name id e = rw e refl

-- a send under way is to a task
pub send_inside : (sc : Scenario) (c : Plain) (m : Machine) (t : ℕ) (f : Frame) (g : machine.Frame) (kind : Kind) (to : ℕ) (moving : Bool) (name id : ℕ) → Ties sc m → is_task sc t ≡ true → AtCall sc c m t f g kind
    → nth_call sc t (part_of c t).begun ≡ Some (calls.Send to moving name id) → (is_task sc to ≡ true) × ((0 < to) × (to - 1 < length c.tasks))
send_inside sc c m t f g kind to moving name id ties task a there =
    let e : is_task sc to ≡ true = ties.fits.sends t g to moving name id task a.work.task (is_call sc c m t f g kind (calls.Send to moving name id) a there) in
    (e, in_parts sc c m to a.work.stands ties e)
