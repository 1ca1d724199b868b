-- What any call asks of a manager, on both sides.
use Rattle.std.proofs.Common.{◌≡◌, ◌⊎◌, inl, inr, ℕ, Bool, true, false, List, [], ◌∷◌, ◌++◌, refl, sym, ap, ◌∙◌, subst, drop, Option, Some, None}
use Rattle.std.specs.Prelude.{is_some, Ok, if◌then◌else◌}
use Rattle.vch_base.specs.declared.commands.TheConstants as commands
use Rattle.vch_base.specs.declared.key.Key.{Key}
use Rattle.vch_base.specs.declared.key.Key.TheVariants as keys
use Rattle.vch_base.specs.declared.kind.Kind.{Kind}
use Rattle.vch_base.specs.declared.kind.Kind.TheVariants as kinds
use Rattle.vch_base.specs.Keyed.{of_key}
use Rattle.vch_base.specs.Managers.{mapped, preprocessed}
use Rattle.vch_recipe.specs.Recipes.{first_of}
use Rattle.vch_model.specs.Lines.{is_task}
use Rattle.vch_model.specs.Store.{voucher_of}
use Rattle.vch_model.specs.Transfer.{received_value}
use Rattle.vch_model.specs.Voucher.{Voucher}
use Rattle.vch_model.specs.declared.call.Call.{Call}
use Rattle.vch_model.specs.declared.call.Call.TheVariants as calls
use Rattle.vch_model.specs.declared.lists.Scenario.{Scenario}
use Rattle.vch_machine.specs.Making.{Asked, asked_by, asked_transfer}
use Rattle.vch_machine.specs.Next.{call_next, current}
use Rattle.vch_machine.specs.State as machine
use Rattle.vch_machine.specs.State.{Handles, Machine, tasked, member_of, valued, value_at}
use Rattle.vch_legal.specs.Tie.{Ties, FormsSend, FormsRecv, keys_there, sent_keys, received_keys}
use Rattle.vch_legal.proofs.CallerLemmas.{forms_at}
use Rattle.vch_frame.specs.Pairs.{Optional, Pairwise}
use Rattle.vch_frame.specs.Indices.{index_of}
use Rattle.vch_parts.specs.declared.frame.Frame.{Frame}
use Rattle.vch_parts.specs.Plain.{Plain, Indices, part_of}
use Rattle.vch_parts.specs.Shape.{IsReceipt, IsName}
use Rattle.vch_parts.proofs.CallerLemmas.{no_receipt}
use Rattle.vch_moves.specs.Moments.{Forms}
use Rattle.vch_moves.proofs.CallerLemmas.{AtCall}
use Rattle.vch_making.specs.declared.question.Question.{Question}
use Rattle.vch_making.specs.Asked.{question_by, content_by}
use Rattle.vch_making.proofs.questions.Asks.{Said, asked_create, sends, receives_importance, receives_bank}

-- The keys of a transfer.

head_of : (k j : Key) (ks : List Key) → k ∷ ks ≡ j ∷ [] → k ≡ j
head_of k j ks e = cc

no_head : (done : List Key) (k : Key) (ks : List Key) → done ++ k ∷ ks ≡ [] → ⊥
no_head [] k ks e = cc
no_head (x ∷ done) k ks e = cc

in_one : (done : List Key) (k j : Key) (ks : List Key) → done ++ k ∷ ks ≡ j ∷ [] → k ≡ j
in_one [] k j ks e = cc
in_one (x ∷ done) k j ks e = absurd (no_head done k ks (cc))

in_two : (done : List Key) (k i j : Key) (ks : List Key) → done ++ k ∷ ks ≡ i ∷ j ∷ [] → (k ≡ i) ⊎ (k ≡ j)
in_two [] k i j ks e = inl (cc)
in_two (x ∷ done) k i j ks e = inr (in_one done k j ks (cc))

sent_key : (done : List Key) (k : Key) (ks : List Key) (v : Voucher) → done ++ k ∷ ks ≡ keys_there sent_keys v → k ≡ keys.Bank
sent_key done k ks v e = by (is_some v.bank) e
  where
    by : (b : Bool) → done ++ k ∷ ks ≡ (if b then keys.Bank ∷ [] else []) → k ≡ keys.Bank
    by true e = in_one done k keys.Bank ks e
    by false e = absurd (no_head done k ks e)

received_key : (done : List Key) (k : Key) (ks : List Key) (v : Voucher) → done ++ k ∷ ks ≡ keys_there received_keys v → (k ≡ keys.Importance) ⊎ (k ≡ keys.Bank)
received_key done k ks v e = by (is_some v.importance) (is_some v.bank) e
  where
    by : (a b : Bool) → done ++ k ∷ ks ≡ (if a then keys.Importance ∷ (if b then keys.Bank ∷ [] else []) else (if b then keys.Bank ∷ [] else [])) → (k ≡ keys.Importance) ⊎ (k ≡ keys.Bank)
    by true true e = in_two done k keys.Importance keys.Bank ks e
    by true false e = inl (in_one done k keys.Importance ks e)
    by false true e = inr (in_one done k keys.Bank ks e)
    by false false e = absurd (no_head done k ks e)

module _ (sc : Scenario) (c : Plain) (m : Machine) (t : ℕ) (f : Frame) (g : machine.Frame) (u : Indices) (w : Handles) (ties : Ties sc m) (task : is_task sc t ≡ true)
    (a : AtCall sc c m t f g kinds.Make) (forms : Forms c g u w) where
  names : Pairwise (IsName c.keyed) (part_of c t).names (tasked m t).names
  names = (a.work.stands.shape.tasks t a.work.positive a.work.inside).names

  no_place : g.receipt ≡ None
  no_place = no_receipt g.receipt (subst (λ o. Optional IsReceipt o g.receipt) a.work.idle.0 a.work.frame.receipt)

  -- what the call asks is asked of this key's manager, who answers so
  abbrev pub SaidBy : Question → Call → Asked
  SaidBy q call = Said sc c m a.work.stands q t (content_by g.at_byte (Some call))

  by_send : (to : ℕ) (moving : Bool) (name id : ℕ) (ks : List Key) (q : Question) → current sc m t ≡ Some (calls.Send to moving name id) → g.keys ≡ ks
      → question_by sc.version (part_of c t).names g.at_byte ks u (Some (calls.Send to moving name id)) ≡ Some q → asked_transfer m.live (preprocessed t) ks w ≡ Some (SaidBy q (calls.Send to moving name id))
  by_send to moving name id [] q there is e = absurd (cc)
  by_send to moving name id (k ∷ ks) q there is e =
      let r : FormsSend sc (voucher_of (member_of m.live (tasked m t)).names) t to name g.keys (valued m.live w) = forms_at sc t m g w None (calls.Send to moving name id) (ties.tasks t task) a.work.task forms.forms no_place there in
      by k (sent_key r.evaluated.0 k ks r.voucher (ap (λ l. r.evaluated.0 ++ l) (sym is) ∙ r.evaluated.1)) e
    where
      by : (k : Key) → k ≡ keys.Bank → ◌≡◌ {A = Option Question} (Some (record { key = k; command = commands.SEND_PREPROCESS; previous = index_of k u })) (Some q)
          → ◌≡◌ {A = Option Asked} (Some (record { key = k; reply = Ok (mapped (preprocessed t) (value_at m.live k (of_key k w))) })) (Some (SaidBy q (calls.Send to moving name id)))
      by keys.Bank b e =
          let mine : Question = record { key = keys.Bank; command = commands.SEND_PREPROCESS; previous = index_of keys.Bank u } in
          let same : mine ≡ q = cc in
          subst (λ z. ◌≡◌ {A = Option Asked} (Some (record { key = keys.Bank; reply = Ok (mapped (preprocessed t) (value_at m.live keys.Bank w.bank)) })) (Some (SaidBy z (calls.Send to moving name id)))) same
          (ap (λ x. Some (record { key = keys.Bank; reply = x })) (sends sc c m a.work.stands t ties u w forms.map))
      by keys.Importance b e = absurd (cc)
      by keys.User b e = absurd (cc)
      by keys.Test b e = absurd (cc)

  abbrev Goes : Question → Key → Type 0
  Goes q k = ◌≡◌ {A = Option Question} (Some (record { key = k; command = commands.AUTO_REDEEM; previous = index_of k u })) (Some q)
      → ◌≡◌ {A = Option Asked} (Some (record { key = k; reply = Ok (mapped (received_value sc t) (value_at m.live k (of_key k w))) })) (Some (SaidBy q calls.Recv))

  by_recv : (ks : List Key) (q : Question) → current sc m t ≡ Some calls.Recv → g.keys ≡ ks
      → question_by sc.version (part_of c t).names g.at_byte ks u (Some calls.Recv) ≡ Some q → asked_transfer m.live (received_value sc t) ks w ≡ Some (SaidBy q calls.Recv)
  by_recv [] q there is e = absurd (cc)
  by_recv (k ∷ ks) q there is e =
      let r : FormsRecv sc (member_of m.live (tasked m t)).queue t g.keys (valued m.live w) = forms_at sc t m g w None calls.Recv (ties.tasks t task) a.work.task forms.forms no_place there in
      elim (received_key r.evaluated.0 k ks r.voucher (ap (λ l. r.evaluated.0 ++ l) (sym is) ∙ r.evaluated.1)) [
        | inl b ↦ subst (Goes q) (sym b) at_importance e
        | inr b ↦ subst (Goes q) (sym b) at_bank e
      ]
    where
      at_importance : Goes q keys.Importance
      at_importance e =
          let mine : Question = record { key = keys.Importance; command = commands.AUTO_REDEEM; previous = index_of keys.Importance u } in
          let same : mine ≡ q = cc in
          subst (λ z. ◌≡◌ {A = Option Asked} (Some (record { key = keys.Importance; reply = Ok (mapped (received_value sc t) (value_at m.live keys.Importance w.importance)) })) (Some (SaidBy z calls.Recv))) same
          (ap (λ x. Some (record { key = keys.Importance; reply = x })) (receives_importance sc c m a.work.stands t ties u w forms.map))

      at_bank : Goes q keys.Bank
      at_bank e =
          let mine : Question = record { key = keys.Bank; command = commands.AUTO_REDEEM; previous = index_of keys.Bank u } in
          let same : mine ≡ q = cc in
          subst (λ z. ◌≡◌ {A = Option Asked} (Some (record { key = keys.Bank; reply = Ok (mapped (received_value sc t) (value_at m.live keys.Bank w.bank)) })) (Some (SaidBy z calls.Recv))) same
          (ap (λ x. Some (record { key = keys.Bank; reply = x })) (receives_bank sc c m a.work.stands t ties u w forms.map))

  make_is : (kind : Kind) → Some kind ≡ Some kinds.Make → kind ≡ kinds.Make
  make_is kind e = cc

  by_call : (call : Call) (q : Question) → current sc m t ≡ Some call → call_next sc.version (tasked m t).names g.at_byte g.keys (Some call) ≡ Some kinds.Make
      → question_by sc.version (part_of c t).names g.at_byte g.keys u (Some call) ≡ Some q → asked_by sc m t g w call ≡ Some (SaidBy q call)
  by_call (calls.Create bytes) q there next e = asked_create sc c m a.work.stands sc.version (part_of c t).names (tasked m t).names t g.keys u w (first_of (drop g.at_byte bytes)) q names forms.map (make_is _ next) e
  by_call (calls.Send to moving name id) q there next e = by_send to moving name id g.keys q there refl e
  by_call calls.Recv q there next e = by_recv g.keys q there refl e
  by_call (calls.GiveUp name) q there next e = absurd (cc)
  by_call (calls.Extract name key) q there next e = absurd (cc)
  by_call (calls.Recipes name) q there next e = absurd (cc)
  by_call calls.Exit q there next e = absurd (cc)
  by_call (calls.Extern name adding n) q there next e = absurd (cc)
  by_call (calls.Charge name n) q there next e = absurd (cc)
  by_call calls.Ledger q there next e = absurd (cc)
  by_call calls.Assertions q there next e = absurd (cc)
  by_call calls.Live q there next e = absurd (cc)

  pub asked_same : (q : Question) → question_by sc.version (part_of c t).names f.at f.keys u (Some a.call) ≡ Some q
      → asked_by sc m t g w a.call ≡ Some (Said sc c m a.work.stands q t (content_by f.at (Some a.call)))
  asked_same q e = subst (λ i. asked_by sc m t g w a.call ≡ Some (Said sc c m a.work.stands q t (content_by i (Some a.call)))) (sym a.work.frame.at_byte)
      (by_call a.call q a.current_is a.asked
      (subst (λ ks. question_by sc.version (part_of c t).names g.at_byte ks u (Some a.call) ≡ Some q) a.work.frame.keys
      (subst (λ i. question_by sc.version (part_of c t).names i f.keys u (Some a.call) ≡ Some q) a.work.frame.at_byte e)))
