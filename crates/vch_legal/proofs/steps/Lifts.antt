-- From what an event does to its own task, to all that every move of a run keeps.
use Rattle.std.proofs.Common.{◌≡◌, ◌≢◌, ℕ, ◌+◌, ◌≤◌, Bool, List, refl, drop, true, false, ◌&&◌, ◌||◌, arith, sym, ap, ◌∙◌, subst, Some, None, Option}
use Rattle.std.specs.Prelude.{if◌then◌else◌, ◌==◌}
use Rattle.std.specs.List.{list_any}
use Rattle.vch_recipe.specs.Recipes.{first_of}
use Rattle.vch_base.specs.declared.value.Value.{Value}
use Rattle.vch_legal.proofs.spots.Places.{same_place_comm}
use Rattle.vch_base.specs.declared.key.Key.{Key}
use Rattle.vch_base.specs.Keys.{number_of}
use Rattle.vch_model.specs.declared.call.Call.{Call}
use Rattle.vch_model.specs.declared.call.Call.TheVariants as calls
use Rattle.vch_model.specs.declared.lists.Scenario.{Scenario}
use Rattle.vch_model.specs.Voucher.{Voucher}
use Rattle.vch_model.specs.Store as store
use Rattle.vch_model.specs.Store.{Member, voucher_of}
use Rattle.vch_model.specs.Lines.{calls_in, phases_in, lines_until}
use Rattle.vch_base.specs.Keyed.{of_key, with_key}
use Rattle.vch_base.proofs.CallerLemmas.{with_of}
use Rattle.vch_machine.specs.State.{Handles, Place, same_place, Living, Named, Message, Claim, Frame, Tasked, Machine, idle, tasked, seen, valued, member_of, is_handle, has_place, option_has, frame_holds, task_holds, is_held, is_expected, is_place, frame_expects, value_at, value_of}
use Rattle.vch_machine.specs.Making.{on_claim, on_frame}
use Rattle.vch_machine.specs.Next.{nth_call}
use Rattle.vch_machine.proofs.CallerLemmas.{Leaves, still_claim}
use Rattle.vch_legal.specs.Facts.{bit}
use Rattle.vch_legal.specs.Tie.{Forms, FormsCreate, FormsSend, FrameForms, IsForming, is_answering, is_open, IsOpen, TaskStands, map_with, place_with, keys_with, AsksFirst, AsksAt, Awaits}
use Rattle.vch_legal.proofs.seen.SeenSame.{AgreeBut, voucher_same}
use Rattle.vch_legal.proofs.facts.Choices.{neither_left, neither_right}
use Rattle.vch_legal.proofs.seen.SeenTasks.{member_seen}
use Rattle.vch_legal.proofs.tasks.TaskItems.{none_at}
use Rattle.vch_legal.proofs.steps.Follows.{Follows, MemberKept, follows_kept, follows_calls, follows_phases}

-- the live values stay, but for one place that nobody holds or expects
pub data Lives (m n : Machine) : Type 0 where
  Same : n.live ≡ m.live → Lives m n
  But : (q : Place) → AgreeBut q n.live m.live → is_held m q ≡ false → is_expected m q ≡ false → Lives m n

unplaced : (v : Handles) (p q : Place) → has_place v q ≡ false → same_place p q ≡ false
    → has_place (with_key p.key (Some p.handle) v) q ≡ false
unplaced v p q h s =
    ap (λ o. is_handle o q.handle) (with_of q.key p.key (Some p.handle) v)
    ∙ by_key (number_of q.key == number_of p.key) (turned (number_of p.key) (number_of q.key) (p.handle == q.handle) s)
  where
    turned : (a b : ℕ) (c : Bool) → ((a == b) && c) ≡ false → ((b == a) && c) ≡ false
    turned a b c e = grind arith

    by_key : (b : Bool) → (b && (p.handle == q.handle)) ≡ false → is_handle
        (if b then Some p.handle else of_key q.key v) q.handle ≡ false
    by_key true e = e
    by_key false e = h

unmapped : (v : Handles) (r : Option Place) (q : Place) → has_place v q ≡ false → is_place r q ≡ false
    → has_place (map_with v r) q ≡ false
unmapped v None q h e = h
unmapped v (Some p) q h e = unplaced v p q h e

frame_free : (q : Place) (x : Tasked) → task_holds q x ≡ false → frame_holds x.frame q ≡ false
frame_free q x e =
    neither_right (list_any (λ (r : Message). option_has r.voucher q) x.queue) (frame_holds x.frame q)
    (neither_right (list_any (λ (n : Named). has_place n.voucher q) x.names)
    (list_any (λ (r : Message). option_has r.voucher q) x.queue || frame_holds x.frame q) e)

-- a map that a task forms stays of the same values
pub map_lives : (m n : Machine) → Lives m n → (u : ℕ) (f : Frame) (v : Handles) → (tasked m u).frame ≡ Some f
    → f.forming ≡ Some v
    → valued n.live (map_with v f.receipt) ≡ valued m.live (map_with v f.receipt)
map_lives m n (Same e) u f v frame forming = ap (λ live. valued live (map_with v f.receipt)) e
map_lives m n (But q agree held expected) u f v frame forming =
    voucher_same n.live m.live q (map_with v f.receipt) agree (unmapped v f.receipt q apart unreceived)
  where
    unheld : frame_holds (tasked m u).frame q ≡ false
    unheld = frame_free q (tasked m u) (none_at (task_holds q) m.tasks u idle refl held)

    apart : has_place v q ≡ false
    apart = ap (λ o. option_has o q) (sym forming)
        ∙ neither_left (option_has f.forming q) (list_any (λ p. same_place p q) f.lets)
        (ap (λ g. frame_holds g q) (sym frame) ∙ unheld)

    unreceived : is_place f.receipt q ≡ false
    unreceived = ap (λ g. frame_expects g q) (sym frame) ∙ none_at (λ (x : Tasked). frame_expects x.frame q) m.tasks
        u idle refl expected

-- and so do the map alone, and the value of its receipt
pub record MapKept (a b : List Living) (v : Handles) (r : Option Place) : Type 0 where
  pub taken : valued b (map_with v r) ≡ valued a (map_with v r)
  pub map : valued b v ≡ valued a v
  pub value : (p : Place) → r ≡ Some p → value_at b p.key (Some p.handle) ≡ value_at a p.key (Some p.handle)

pub map_kept : (m n : Machine) → Lives m n → (u : ℕ) (f : Frame) (v : Handles) → (tasked m u).frame ≡ Some f
    → f.forming ≡ Some v → MapKept m.live n.live v f.receipt
map_kept m n (Same e) u f v frame forming = record {
  taken = map_lives m n (Lives.Same e) u f v frame forming;
  map = ap (λ live. valued live v) e;
  value = λ p g. ap (λ live. value_at live p.key (Some p.handle)) e;
}
map_kept m n (But q agree held expected) u f v frame forming = record {
  taken = map_lives m n (Lives.But q agree held expected) u f v frame forming;
  map = voucher_same n.live m.live q v agree apart;
  value = λ p g. ap value_of (agree p (same_place_comm q p ∙ (ap (λ o. is_place o q) (sym g) ∙ unreceived)));
}
  where
    unheld : frame_holds (tasked m u).frame q ≡ false
    unheld = frame_free q (tasked m u) (none_at (task_holds q) m.tasks u idle refl held)

    apart : has_place v q ≡ false
    apart = ap (λ o. option_has o q) (sym forming)
        ∙ neither_left (option_has f.forming q) (list_any (λ p. same_place p q) f.lets)
        (ap (λ g. frame_holds g q) (sym frame) ∙ unheld)

    unreceived : is_place f.receipt q ≡ false
    unreceived = ap (λ g. frame_expects g q) (sym frame) ∙ none_at (λ (x : Tasked). frame_expects x.frame q) m.tasks
        u idle refl expected

-- what is asked is asked of the same names
asks_kept : (sc : Scenario) (x y : Member) (t : ℕ) (call : Call) (place : ℕ) (ks : List Key) (v : Voucher) (k : Key) (z : Value)
    → MemberKept x y → AsksAt sc x t call place ks v k z → AsksAt sc y t call place ks v k z
asks_kept sc x y t (calls.Create bytes) place ks v k z g h = subst
    (λ (ns : List store.Named). AsksFirst sc.version (voucher_of ns) t ks v (first_of (drop place bytes)) k z) (sym g.names) h
asks_kept sc x y t (calls.Send to moving name id) place ks v k z g h = h
asks_kept sc x y t calls.Recv place ks v k z g h = h
asks_kept sc x y t (calls.GiveUp name) place ks v k z g h = h
asks_kept sc x y t (calls.Extract name key) place ks v k z g h = h
asks_kept sc x y t (calls.Recipes name) place ks v k z g h = h
asks_kept sc x y t (calls.Extern name adding n) place ks v k z g h = h
asks_kept sc x y t (calls.Charge name n) place ks v k z g h = h
asks_kept sc x y t calls.Ledger place ks v k z g h = h
asks_kept sc x y t calls.Assertions place ks v k z g h = h
asks_kept sc x y t calls.Live place ks v k z g h = h
asks_kept sc x y t calls.Exit place ks v k z g h = h

-- what a call forms is seen alike from a task that keeps its names and its first message
pub forms_kept : (sc : Scenario) (x y : Member) (t : ℕ) (call : Call) (place : ℕ) (ks : List Key) (v : Voucher)
    → MemberKept x y → Forms sc x t call place ks v → Forms sc y t call place ks v
forms_kept sc x y t (calls.Create bytes) place ks v k h = subst
    (λ (ns : List store.Named). FormsCreate sc.version (voucher_of ns) t bytes place ks v) (sym k.names) h
forms_kept sc x y t (calls.Send to moving name id) place ks v k h = subst
    (λ (ns : List store.Named). FormsSend sc (voucher_of ns) t to name ks v) (sym k.names) h
forms_kept sc x y t calls.Recv place ks v k h = record
    { voucher = h.voucher; first = k.first h.voucher h.first; made = h.made; evaluated = h.evaluated; keys_managed = h.keys_managed }
forms_kept sc x y t (calls.GiveUp name) place ks v k h = h
forms_kept sc x y t (calls.Extract name key) place ks v k h = h
forms_kept sc x y t (calls.Recipes name) place ks v k h = h
forms_kept sc x y t (calls.Extern name adding n) place ks v k h = h
forms_kept sc x y t (calls.Charge name n) place ks v k h = h
forms_kept sc x y t calls.Ledger place ks v k h = h
forms_kept sc x y t calls.Assertions place ks v k h = h
forms_kept sc x y t calls.Live place ks v k h = h
forms_kept sc x y t calls.Exit place ks v k h = h

awaits_kept : (sc : Scenario) (a b : List Living) (x y : Member) (t : ℕ) (call : Call) (place : ℕ) (ks : List Key) (v : Handles)
    (r : Option Place) → MemberKept x y → MapKept a b v r → Awaits sc a x t call place ks v r → Awaits sc b y t call place ks v r
awaits_kept sc a b x y t call place ks v None k same h = tt
awaits_kept sc a b x y t call place ks v (Some q) k same h = record {
  value = h.value;
  there = same.value q refl ∙ h.there;
  forms = subst (λ (w : Voucher). Forms sc y t call place ks w) (sym same.map) (forms_kept sc x y t call place ks _ k h.forms);
  asked = subst (λ (w : Voucher). AsksAt sc y t call place ks w q.key h.value) (sym same.map)
      (asks_kept sc x y t call place ks _ q.key h.value k h.asked);
}

pub forming_kept : (sc : Scenario) (a b : List Living) (x y : Member) (t begun : ℕ) (f : Option Frame) → MemberKept x y
    → ((g : Frame) (v : Handles) → f ≡ Some g → g.forming ≡ Some v → MapKept a b v g.receipt)
    → IsForming sc a x t begun f → IsForming sc b y t begun f
forming_kept sc a b x y t begun None k same h = tt
forming_kept sc a b x y t begun (Some f) k same h = by_forming f.forming (nth_call sc t begun) refl h
  where
    by_forming : (v : Option Handles) (call : Option Call) → f.forming ≡ v
        → FrameForms sc a x t f.at_byte f.keys f.receipt f.answered v call
        → FrameForms sc b y t f.at_byte f.keys f.receipt f.answered v
        call
    by_forming None call e h = h
    by_forming (Some v) None e h = h
    by_forming (Some v) (Some call) e h = (
      subst (λ (w : Voucher). Forms sc y t call (place_with sc.version call f.at_byte f.keys f.receipt)
          (keys_with sc.version call f.at_byte f.keys f.receipt) w) (sym (same f v refl e).taken)
          (forms_kept sc x y t call _ _ _ k h.0),
      awaits_kept sc a b x y t call f.at_byte f.keys v f.receipt k (same f v refl e) h.1,
    )

-- a claim is not looked at
forming_still : (sc : Scenario) (live : List Living) (x : Member) (t begun : ℕ) (f : Option Frame)
    → IsForming sc live x t begun f → IsForming sc live x t begun (on_frame still_claim f)
forming_still sc live x t begun None h = h
forming_still sc live x t begun (Some f) h = h

forming_stilled : (sc : Scenario) (live : List Living) (x : Member) (t begun : ℕ) (f : Option Frame)
    → IsForming sc live x t begun (on_frame still_claim f) → IsForming sc live x t begun f
forming_stilled sc live x t begun None h = h
forming_stilled sc live x t begun (Some f) h = h

open_still : (f : Option Frame) → IsOpen f → IsOpen (on_frame still_claim f)
open_still None h = h
open_still (Some f) h = by_claim f.claim h
  where
    by_claim : (c : Option Claim) → is_open (record f { claim = c }) ≡ true
        → is_open (record f { claim = on_claim still_claim c }) ≡ true
    by_claim None h = h
    by_claim (Some c) h = h

open_stilled : (f : Option Frame) → IsOpen (on_frame still_claim f) → IsOpen f
open_stilled None h = h
open_stilled (Some f) h = by_claim f.claim h
  where
    by_claim : (c : Option Claim) → is_open (record f { claim = on_claim still_claim c }) ≡ true
        → is_open (record f { claim = c }) ≡ true
    by_claim None h = h
    by_claim (Some c) h = h

answering_still : (f : Option Frame) → is_answering (on_frame still_claim f) ≡ is_answering f
answering_still None = refl
answering_still (Some f) = refl

-- another task stands as before
pub other_stands : (sc : Scenario) (t u : ℕ) (m n : Machine) → u ≢ t → Leaves u m n → Follows sc t m n
    → Lives m n
    → TaskStands sc m.past m.live u (tasked m u) → TaskStands sc n.past n.live u (tasked n u)
other_stands sc t u m n apart leaves follows lives s = record {
  counted = begun ∙ (s.counted ∙ (ap (λ c. c + bit (is_answering (tasked m u).frame)) (sym same_calls)
      ∙ ap (λ b. calls_in n.past u + bit b) (sym answering)));
  begun = subst (λ p. (tasked n u).begun ≤ lines_until sc (p + 1) u) (sym same_phases)
      (subst (λ b. b ≤ lines_until sc (phases_in m.past + 1) u) (sym begun) s.begun);
  answered = subst (λ p. lines_until sc p u ≤ calls_in n.past u) (sym same_phases)
      (subst (λ c. lines_until sc (phases_in m.past) u ≤ c) (sym same_calls) s.answered);
  forming = forming_stilled sc n.live (member_of n.live (tasked n u)) u (tasked n u).begun (tasked n u).frame
      (subst (λ (g : Option Frame). IsForming sc n.live (member_of n.live (tasked n u)) u (tasked n u).begun g)
      (sym (ap (λ x. x.frame) leaves.task))
      (forming_still sc n.live (member_of n.live (tasked n u)) u (tasked n u).begun (tasked m u).frame
      (subst (λ b. IsForming sc n.live (member_of n.live (tasked n u)) u b (tasked m u).frame) (sym begun)
      (forming_kept sc m.live n.live (member_of m.live (tasked m u)) (member_of n.live (tasked n u)) u
      (tasked m u).begun (tasked m u).frame kept (λ g v. map_kept m n lives u g v) s.forming))));
  open_frame = open_stilled (tasked n u).frame (subst IsOpen (sym (ap (λ x. x.frame) leaves.task))
      (open_still (tasked m u).frame s.open_frame));
}
  where
    begun : (tasked n u).begun ≡ (tasked m u).begun
    begun = ap (λ x. x.begun) leaves.task

    same_calls : calls_in n.past u ≡ calls_in m.past u
    same_calls = follows_calls sc t u m n apart follows

    same_phases : phases_in n.past ≡ phases_in m.past
    same_phases = follows_phases sc t m n follows

    answering : is_answering (tasked n u).frame ≡ is_answering (tasked m u).frame
    answering = sym (answering_still (tasked n u).frame) ∙
        (ap (λ x. is_answering x.frame) leaves.task ∙ answering_still (tasked m u).frame)

    kept : MemberKept (member_of m.live (tasked m u)) (member_of n.live (tasked n u))
    kept = subst (λ (x : Member). MemberKept x (member_of n.live (tasked n u))) (member_seen m u)
        (subst (λ (y : Member). MemberKept (store.member (seen m) u) y) (member_seen n u)
        (follows_kept sc t u m n apart follows))
