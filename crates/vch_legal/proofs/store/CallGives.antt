-- What a call of the sequential store gives to names and messages.
use Rattle.std.proofs.Common.{◌≡◌, ℕ, Bool, refl, true, false, not, ◌&&◌, sym, subst, Some, None, Option}
use Rattle.std.specs.Prelude.{if◌then◌else◌, ◌==◌}
use Rattle.vch_model.specs.declared.call.Call.{Call}
use Rattle.vch_model.specs.declared.call.Call.TheVariants as calls
use Rattle.vch_model.specs.declared.lists.Scenario.{Scenario}
use Rattle.vch_model.specs.Voucher.{Voucher}
use Rattle.vch_model.specs.Store.{Store, member, voucher_of, is_full}
use Rattle.vch_model.specs.Eval.{create}
use Rattle.vch_model.specs.Lines.{is_task}
use Rattle.vch_model.specs.After.{store_after_call, queued, sent}
use Rattle.vch_model.specs.Legal.{voucher_given, voucher_sent}
use Rattle.vch_legal.proofs.store.StoreKeeps.{Gives, gives_self, let_go_gives, queued_gives, placed_gives, received_gives, sent_gives}

sent_full : (sc : Scenario) (s : Store) (t to : ℕ) (moving : Bool) (name id : ℕ) (v : Option Voucher)
    → is_full sc s to ≡ true → sent sc s t to moving name id v ≡ s
sent_full sc s t to moving name id None e = refl
sent_full sc s t to moving name id (Some v) e = rw e refl

send_gives : (sc : Scenario) (s : Store) (t to : ℕ) (moving : Bool) (name id : ℕ) (a b c : Bool) (v : Option Voucher)
    → is_full sc s to ≡ c
    → Gives (if a && (not b && not c) then voucher_sent t v else None) s
    (if not a then s else if b then queued sc s to (record { sender = t; id = id; voucher = None }) else sent sc s t to
    moving name id v)
send_gives sc s t to moving name id false b c v e = gives_self None s
send_gives sc s t to moving name id true true c v e = queued_gives None sc s to
    (record { sender = t; id = id; voucher = None }) (λ k x h. h)
send_gives sc s t to moving name id true false false None e = gives_self None s
send_gives sc s t to moving name id true false false (Some v) e = sent_gives sc s t to moving name id v
send_gives sc s t to moving name id true false true v e = subst (λ (o : Store). Gives None s o)
    (sym (sent_full sc s t to moving name id v e)) (gives_self None s)

pub call_gives : (sc : Scenario) (s : Store) (t : ℕ) (call : Call)
    → Gives (voucher_given sc s t call) s (store_after_call sc s t call)
call_gives sc s t (calls.Create bytes) = placed_gives s t (create sc.version (voucher_of (member s t).names) t bytes)
call_gives sc s t (calls.GiveUp name) = let_go_gives None s t name
call_gives sc s t (calls.Send to moving name id) = send_gives sc s t to moving name id (is_task sc to) (name == 0)
    (is_full sc s to) (voucher_of (member s t).names name) refl
call_gives sc s t calls.Recv = received_gives sc s t (member s t).queue refl
call_gives sc s t (calls.Extract name key) = gives_self None s
call_gives sc s t (calls.Recipes name) = gives_self None s
call_gives sc s t (calls.Extern name adding n) = gives_self None s
call_gives sc s t (calls.Charge name n) = gives_self None s
call_gives sc s t calls.Ledger = gives_self None s
call_gives sc s t calls.Assertions = gives_self None s
call_gives sc s t calls.Live = gives_self None s
call_gives sc s t calls.Exit = gives_self None s
