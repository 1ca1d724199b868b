-- The events that leave the values, the handles, the tally and every spot: refusals, Work, a Make of no value, Place.
use Rattle.std.proofs.Common.{◌≡◌, ℕ, ◌+◌, ◌≤◌, List, [], ◌∷◌, ◌++◌, Bool, refl, true, false, arith, sym, ap, ◌∙◌, subst, length, Some, None, Ok, Err, Result}
use Rattle.std.specs.Prelude.{◌==◌, ◌&&◌, ◌||◌, ℤ}
use Rattle.vch_base.specs.declared.key.Key.{Key}
use Rattle.vch_base.specs.Keyed.{of_key, with_key}
use Rattle.vch_base.specs.Keys.{number_of}
use Rattle.vch_model.specs.declared.call.Call.{Call}
use Rattle.vch_model.specs.declared.lists.Scenario.{Scenario}
use Rattle.vch_model.specs.Lines.{is_task}
use Rattle.vch_machine.specs.State.{Handles, Place, Frame, Tasked, Machine, Message, tasked, with_tasked, option_has, is_place, claim_at}
use Rattle.vch_machine.specs.Beginning.{enqueued}
use Rattle.vch_machine.specs.Frames.{closed, refuse, with_frame}
use Rattle.vch_machine.specs.Making.{make_done, moved}
use Rattle.vch_machine.specs.Naming.{item, option_places, one_less, handles_of, orphaned, doubled, name_of, with_name}
use Rattle.vch_machine.specs.Placing.{place_create, place_send, place_recv, ended, moved_name}
use Rattle.vch_machine.specs.Working.{work_done, first_at, size_of, work_first, WorkDone}
use Rattle.vch_legal.specs.Facts.{FrameFits, OptionFits, SendsToTasks, ExitsFormNothing, spot, most_lets}
use Rattle.vch_legal.proofs.spots.FrameSpots.{kept_named}
use Rattle.vch_legal.proofs.spots.ReferSpots.{holds_eq, moved_same}
use Rattle.vch_legal.proofs.spots.WorkSpots.{refuse_spot, work_spot, spot_alike, swap_holds, lets_hold}
use Rattle.vch_legal.proofs.spots.PutSpots.{put_create_spot}
use Rattle.vch_legal.proofs.spots.TransferSpots.{put_recv_spot, put_send_spot}
use Rattle.vch_legal.proofs.spots.BeginSpots.{InRange}
use Rattle.vch_legal.proofs.tasks.OwnTask.{Near, SentTo, near_self, near_then, near_own, near_framed, near_replied, near_queued, near_either, named_begun, sent_near, item_fits, orphaned_few, doubled_few, work_few, refuse_few, one_few, two_few}
use Rattle.vch_legal.proofs.tasks.OwnFrame.{own_frame, plain_fits, closed_fits}
use Rattle.vch_legal.proofs.steps.ExitOwn.{ExitAt, formed_exit}

-- an event that leaves the values, the handles, the tally and every spot
pub record Plain (sc : Scenario) (t : ℕ) (m n : Machine) : Type 0 where
  pub live : n.live ≡ m.live
  pub pools : n.pools ≡ m.pools
  pub tally : n.tally ≡ m.tally
  pub older : length m.past ≤ length n.past
  pub tasks : length n.tasks ≡ length m.tasks
  pub own : OptionFits (tasked n t).frame
  pub sent : SentTo sc t n
  pub exits : ExitAt sc t n
  pub spots : (p : Place) → spot n p ≡ spot m p

-- a call of the task is under way, in a state that meets the facts of tasks
pub record Underway (sc : Scenario) (t : ℕ) (m : Machine) (f : Frame) : Type 0 where
  pub range : InRange sc m
  pub sends : SendsToTasks sc m
  pub exits : ExitsFormNothing sc m
  pub task : is_task sc t ≡ true
  pub frame : (tasked m t).frame ≡ Some f
  pub fits : FrameFits f

-- it forms a voucher, and nothing but the call is left to do
pub record Forms (sc : Scenario) (t : ℕ) (m : Machine) (f : Frame) (v : Handles) : Type 0 where
  pub under : Underway sc t m f
  pub forming : f.forming ≡ Some v
  pub receipt : f.receipt ≡ None
  pub claim : f.claim ≡ None
  pub lets : f.lets ≡ []

-- what a Plain event is made of
pub plain_of : (sc : Scenario) (t : ℕ) (m n : Machine) → Near t m n → OptionFits (tasked n t).frame → SentTo sc t n
    → ExitAt sc t n → ((p : Place) → spot n p ≡ spot m p) → Plain sc t m n
plain_of sc t m n near own sent exits spots =
    record {
      live = near.live;
      pools = near.pools;
      tally = near.tally;
      older = near.older;
      tasks = near.tasks;
      own =
          own;
      sent = sent;
      exits = exits;
      spots = spots;
    }

-- the same of the event of a frame that forms a voucher
framed_plain : (sc : Scenario) (t : ℕ) (m n : Machine) (f : Frame) (v : Handles) → Forms sc t m f v
    → Near t m n → OptionFits (tasked n t).frame → ((p : Place) → spot n p ≡ spot m p) → Plain sc t m n
framed_plain sc t m n f v u near own spots = plain_of sc t m n near own
    (sent_near sc t m n f u.under.sends u.under.task u.under.frame near)
    (formed_exit sc t m n f v u.under.exits u.under.task u.under.frame u.forming near.begun) spots

-- A refusal.
answered_frame : Frame → List Place → Frame
answered_frame f lets = record f { forming = None; answered = true; keys = []; lets = lets }

answered_own : (m : Machine) (t : ℕ) (f : Frame) (lets : List Place) → f.receipt ≡ None → length lets ≤ most_lets
    → OptionFits (tasked (with_frame m t (closed (answered_frame f lets))) t).frame
unfolding answered_frame
answered_own m t f lets r few =
    own_frame m t (closed (answered_frame f lets)) (closed_fits (answered_frame f lets)
    (plain_fits (answered_frame f lets) r (λ _. refl) few))

pub refuse_plain : (sc : Scenario) (t : ℕ) (m : Machine) (f : Frame) (v : Handles) (call : Call) (code : ℤ)
    → Forms sc t m f v → Plain sc t m (refuse m t f call code)
unfolding answered_frame
refuse_plain sc t m f v call code u =
    framed_plain sc t m (refuse m t f call code) f v u
    (near_replied t m _ call _ (near_framed t m m (closed (answered_frame f (f.lets ++ option_places f.forming)))
    (near_self t m)))
    (answered_own m t f (f.lets ++ option_places f.forming) u.receipt (refuse_few f.lets f.forming u.lets))
    (λ p. refuse_spot m t f call code p u.under.frame)

-- Work.
pub work_plain : (sc : Scenario) (t : ℕ) (m : Machine) (f : Frame) (v : Handles) (call : Call) (r : Result WorkDone ℤ)
    → Forms sc t m f v → work_first sc.version (tasked m t).names (first_at f call) v ≡ r
    → Plain sc t m (work_done m t f call (size_of (first_at f call)) r)
work_plain sc t m f v call (Err code) u eq = refuse_plain sc t m f v call code u
work_plain sc t m f v call (Ok w) u eq =
    framed_plain sc t m (with_frame m t (Some after)) f v u (near_framed t m m (Some after) (near_self t m))
    (own_frame m t (Some after) (plain_fits after u.receipt settled
    (work_few sc.version (tasked m t).names (first_at f call) v f.lets w eq u.lets)))
    (λ p. work_spot m t f sc.version v call (size_of (first_at f call)) (first_at f call) (Ok w) p u.under.frame
    u.forming (sym eq))
  where
    after : Frame
    after = record f {
      forming = Some w.forming;
      at_byte = f.at_byte + size_of
          (first_at f call);
      lets = f.lets ++ w.left;
    }

    settled : f.answered ≡ true → Some w.forming ≡ None
    settled a = let k : None ≡ Some v = sym (u.under.fits.answered a) ∙ u.forming in cc

-- A Make that gives no value: the key is lost.
lost : Frame → Handles → Key → Frame
lost f v k = record f { forming = Some (with_key k None v); lets = f.lets ++ item k (of_key k v) }

lost_spot : (version : ℕ) (m : Machine) (t : ℕ) (f : Frame) (v : Handles) (call : Call) (k : Key) (p : Place)
    → (tasked m t).frame ≡ Some f → f.forming ≡ Some v
    → spot (make_done version m t f v call k (Ok None)) p ≡ spot m p
unfolding lost
lost_spot version m t f v call k p e forming =
    spot_alike m t f (Some (moved version call (lost f v k))) p e
    (ap (λ b. b || kept_named m t p) (holds_eq (lost f v k) (moved version call (lost f v k)) p
    (moved_same version call (lost f v k)))
    ∙ (swap_holds k p.key None v p.handle f.lets (kept_named m t p)
    (never (number_of k == number_of p.key) (kept_named m t p))
    ∙ sym (ap (λ x. (option_has x p || lets_hold f.lets p) || kept_named m t p) forming)))
    (ap (λ x. is_place x p) (moved_same version call (lost f v k)).receipt)
    (ap (λ x. claim_at x p) (moved_same version call (lost f v k)).claim)
  where
    never : (b n : Bool) → (b && false) ≡ true → n ≡ true
    never b n g = grind arith

pub lost_plain : (sc : Scenario) (t : ℕ) (m : Machine) (f : Frame) (v : Handles) (call : Call) (k : Key)
    → Forms sc t m f v → Plain sc t m (make_done sc.version m t f v call k (Ok None))
unfolding lost
lost_plain sc t m f v call k u =
    framed_plain sc t m (with_frame m t (Some after)) f v u (near_framed t m m (Some after) (near_self t m))
    (own_frame m t (Some after) (plain_fits after ((moved_same sc.version call (lost f v k)).receipt ∙ u.receipt)
    settled
    (subst (λ lets. length lets ≤ most_lets) (sym (moved_same sc.version call (lost f v k)).lets)
    (item_fits f.lets k (of_key k v) u.lets))))
    (λ p. lost_spot sc.version m t f v call k p u.under.frame u.forming)
  where
    after : Frame
    after = moved sc.version call (lost f v k)

    settled : after.answered ≡ true → after.forming ≡ None
    settled a = let i : None ≡ Some v =
        sym (u.under.fits.answered (sym (moved_same sc.version call (lost f v k)).answered ∙ a)) ∙ u.forming in cc

-- Place.
pub create_plain : (sc : Scenario) (t : ℕ) (m : Machine) (f : Frame) (v : Handles) (call : Call) → Forms sc t m f v
    → Plain sc t m (place_create m t f v call)
unfolding answered_frame
create_plain sc t m f v call u =
    framed_plain sc t m (place_create m t f v call) f v u
    (near_replied t m _ call _ (near_framed t m mid (ended f (doubled m v))
    (near_own t m named (named_begun (tasked m t) v (name_of (tasked m t).names v)))))
    (answered_own mid t f (f.lets ++ doubled m v) u.receipt (one_few f.lets (doubled m v) u.lets (doubled_few m v)))
    (λ p. put_create_spot m t f v call p u.under.frame u.forming)
  where
    named : Tasked
    named = with_name (tasked m t) v (name_of (tasked m t).names v)

    mid : Machine
    mid = with_tasked m t named

pub send_plain : (sc : Scenario) (t : ℕ) (m : Machine) (f : Frame) (v : Handles) (call : Call) (to : ℕ) (moving : Bool)
    (name id : ℕ) → Forms sc t m f v → is_task sc to ≡ true → Plain sc t m (place_send m t f v call to moving name id)
unfolding answered_frame
send_plain sc t m f v call to moving name id u to_task =
    framed_plain sc t m (place_send m t f v call to moving name id) f v u
    (near_replied t m _ call _ (near_framed t m mid (ended f lets)
    (near_then t m queued mid (near_queued t to m _) moved_near)))
    (answered_own mid t f (f.lets ++ lets) u.receipt (two_few f.lets (doubled m v)
    (orphaned mid (handles_of (tasked m t).names name)) u.lets
    (doubled_few m v) (orphaned_few mid (handles_of (tasked m t).names name))))
    (λ p. put_send_spot m t f v call to moving name id p u.under.frame u.forming (u.under.range to to_task))
  where
    queued : Machine
    queued = enqueued m to (record { sender = t; id = id; voucher = Some v })

    mid : Machine
    mid = moved_name queued t moving name

    lets : List Place
    lets = doubled m v ++ orphaned mid (handles_of (tasked m t).names name)

    moved_near : Near t queued mid
    moved_near = near_either t queued (with_tasked queued t (record
        (tasked queued t) { names = one_less (tasked queued t).names name })) queued moving
        (near_own t queued (record (tasked queued t) { names = one_less (tasked queued t).names name }) refl)
        (near_self t queued)

pub recv_plain : (sc : Scenario) (t : ℕ) (m : Machine) (f : Frame) (v : Handles) (call : Call) (queue : List Message)
    → Forms sc t m f v → (tasked m t).queue ≡ queue → Plain sc t m (place_recv m t f v call queue)
unfolding answered_frame
recv_plain sc t m f v call [] u g =
    framed_plain sc t m m f v u (near_self t m) (subst OptionFits (sym u.under.frame) u.under.fits) (λ p. refl)
recv_plain sc t m f v call (q ∷ queue) u g =
    framed_plain sc t m (place_recv m t f v call (q ∷ queue)) f v u
    (near_replied t m _ call _ (near_framed t m mid (ended f lets)
    (near_own t m named (named_begun x v (name_of x.names v)))))
    (answered_own mid t f (f.lets ++ lets) u.receipt (two_few f.lets (doubled m v) (orphaned mid q.voucher) u.lets
    (doubled_few m v) (orphaned_few mid q.voucher)))
    (λ p. put_recv_spot m t f v call q queue p u.under.frame u.forming g)
  where
    x : Tasked
    x = record (tasked m t) { queue = queue }

    named : Tasked
    named = with_name x v (name_of x.names v)

    mid : Machine
    mid = with_tasked m t named

    lets : List Place
    lets = doubled m v ++ orphaned mid q.voucher
