-- In every state of a run, what a frame forms is what was evaluated so far.
use Rattle.std.proofs.Common.{◌≡◌, ℕ, List, true, sym, ap, ◌∙◌, subst, Some, None, Option}
use Rattle.vch_base.specs.declared.key.Key.{Key}
use Rattle.vch_model.specs.declared.call.Call.{Call}
use Rattle.vch_model.specs.declared.call.Call.TheVariants as calls
use Rattle.vch_model.specs.declared.lists.Scenario.{Scenario}
use Rattle.vch_model.specs.Voucher.{Voucher}
use Rattle.vch_model.specs.Store.{Store, Member, member}
use Rattle.vch_model.specs.After.{store_of}
use Rattle.vch_model.specs.Lines.{is_task}
use Rattle.vch_machine.specs.State.{Handles, Place, Frame, Machine, idle, tasked, valued, member_of}
use Rattle.vch_machine.specs.Next.{current}
use Rattle.vch_machine.specs.Schedules.{Move, run_from_start}
use Rattle.vch_legal.specs.Tie.{Forms, FrameForms, IsForming, AsksAt, Ties}
use Rattle.vch_legal.specs.Evaluated.{WasEvaluated, IsSoFar}
use Rattle.vch_legal.proofs.tasks.TaskItems.{at_map}
use Rattle.vch_legal.proofs.runs.Runs.{reached_stands}

formed_evaluated : (sc : Scenario) (x : Member) (t : ℕ) (call : Call) (place : ℕ) (ks : List Key) (map : Voucher)
    → Forms sc x t call place ks map → WasEvaluated sc x t call place ks map
formed_evaluated sc x t (calls.Create bytes) place ks map h = h.evaluated
formed_evaluated sc x t (calls.Send to moving name id) place ks map h = (h.voucher, h.known, h.evaluated)
formed_evaluated sc x t calls.Recv place ks map h = (h.voucher, h.first, h.evaluated)
formed_evaluated sc x t (calls.GiveUp name) place ks map h = h
formed_evaluated sc x t (calls.Extract name key) place ks map h = h
formed_evaluated sc x t (calls.Recipes name) place ks map h = h
formed_evaluated sc x t (calls.Extern name adding n) place ks map h = h
formed_evaluated sc x t (calls.Charge name n) place ks map h = h
formed_evaluated sc x t calls.Ledger place ks map h = h
formed_evaluated sc x t calls.Assertions place ks map h = h
formed_evaluated sc x t calls.Live place ks map h = h
formed_evaluated sc x t calls.Exit place ks map h = h

pub run_evaluated : (sc : Scenario) (moves : List Move) (n : Machine) (t : ℕ) (f : Frame) (v : Handles) (call : Call)
    → run_from_start sc moves ≡ Some n → is_task sc t ≡ true → (tasked n t).frame ≡ Some f → f.forming ≡ Some v
    → current sc n t ≡ Some call → IsSoFar sc n t f v call f.receipt
run_evaluated sc moves n t f v call e task frame forming now = by_receipt f.receipt formed
  where
    s : Ties sc n
    s = reached_stands sc moves n e

    same : member (store_of sc n.past) t ≡ member_of n.live (tasked n t)
    same = ap (λ (r : Store). member r t) (sym s.same_store) ∙ at_map (member_of n.live) n.tasks t idle

    framed : IsForming sc n.live (member_of n.live (tasked n t)) t (tasked n t).begun (Some f)
    framed = subst (IsForming sc n.live (member_of n.live (tasked n t)) t (tasked n t).begun) frame (s.tasks t task).forming

    formed : FrameForms sc n.live (member_of n.live (tasked n t)) t f.at_byte f.keys f.receipt f.answered (Some v) (Some call)
    formed =
        subst (λ o. FrameForms sc n.live (member_of n.live (tasked n t)) t f.at_byte f.keys f.receipt f.answered (Some v) o) now
        (subst (λ o. FrameForms sc n.live (member_of n.live (tasked n t)) t f.at_byte f.keys f.receipt f.answered o
        (current sc n t)) forming framed)

    so_far : Forms sc (member_of n.live (tasked n t)) t call f.at_byte f.keys (valued n.live v)
        → WasEvaluated sc (member (store_of sc n.past) t) t call f.at_byte f.keys (valued n.live v)
    so_far h = subst (λ (x : Member). WasEvaluated sc x t call f.at_byte f.keys (valued n.live v)) (sym same)
        (formed_evaluated sc (member_of n.live (tasked n t)) t call f.at_byte f.keys (valued n.live v) h)

    by_receipt : (r : Option Place) → FrameForms sc n.live (member_of n.live (tasked n t)) t f.at_byte f.keys r f.answered (Some v) (Some call)
        → IsSoFar sc n t f v call r
    by_receipt None h = (so_far h.0, tt)
    by_receipt (Some q) h = (
      so_far h.1.forms,
      (
        h.1.value,
        h.1.there,
        subst (λ (x : Member). AsksAt sc x t call f.at_byte f.keys (valued n.live v) q.key h.1.value) (sym same) h.1.asked,
      ),
    )
