-- A manager handed out a value, and the frame got its receipt: the event of the parts.
use Rattle.std.proofs.Common.{◌≡◌, ℕ, ◌+◌, ◌-◌, ◌≤◌, true, false, List, refl, arith, sym, ap, ◌∙◌, length, subst, Some, None}
use Rattle.std.specs.Prelude.{IfSome, Ok}
use Rattle.std.proofs.Math.ListN.{set}
use Rattle.std.proofs.lemmas.Option.{same_Some}
use Rattle.vch_base.specs.declared.key.Key.{Key}
use Rattle.vch_base.specs.declared.key.Key.TheVariants as keys
use Rattle.vch_base.specs.declared.kind.Kind.TheVariants as kinds
use Rattle.vch_base.specs.declared.manager.Got.TheVariants as got
use Rattle.vch_base.specs.declared.value.Value.{Value}
use Rattle.vch_base.specs.declared.value.Value.TheVariants as values
use Rattle.vch_base.specs.Values.{Belongs}
use Rattle.vch_base.specs.Keyed.{Keyed, of_key, with_key}
use Rattle.vch_base.specs.Managers.{Kept, Handed, value_at}
use Rattle.vch_entry.specs.Entries as entry
use Rattle.vch_value.specs.declared.flight.Made.TheVariants as made
use Rattle.vch_value.specs.Flight.{Receipt}
use Rattle.vch_value.specs.Picture as picture
use Rattle.vch_value.specs.Picture.{made_picture}
use Rattle.vch_model.specs.declared.entry.Entry.{Entry}
use Rattle.vch_model.specs.declared.call.Call.{Call}
use Rattle.vch_model.specs.Lines.{is_task}
use Rattle.vch_model.specs.Rows.{Entries}
use Rattle.vch_machine.specs.Making.{asked_by}
use Rattle.vch_machine.specs.Next.{nth_call}
use Rattle.vch_machine.specs.State as machine
use Rattle.vch_machine.specs.State.{Handles, Machine}
use Rattle.vch_values.specs.Parts.{KeyParts}
use Rattle.vch_vouchers.specs.Desks.{desk}
use Rattle.vch_parts.specs.declared.frame.Frame.{Frame}
use Rattle.vch_parts.specs.declared.parts.Parts.{Parts}
use Rattle.vch_parts.specs.Framed.{frame_of, begun_of, with_frame_of}
use Rattle.vch_parts.specs.Pictures.{picture_of}
use Rattle.vch_parts.specs.Plain.{Plain, Part, Indices}
use Rattle.vch_parts.specs.Reached.{plain_of, Reached, Stands, IsNext, MayFollow}
use Rattle.vch_parts.proofs.CallerLemmas.{tasks_then, Happens}
use Rattle.vch_moves.specs.Moments.{Forms}
use Rattle.vch_moves.proofs.CallerLemmas.{AtCall, from_state, ties_of, may_follow}
use Rattle.vch_making.specs.declared.question.Question.{Question}
use Rattle.vch_making.specs.Asked.{question_by}
use Rattle.vch_making.specs.Given.{gave, gave_fresh, receiving, HandsOut}
use Rattle.vch_making.specs.Answers.{Answers, HasRoom, NotesMade, question_of, reply_to}
use Rattle.vch_making.proofs.giving.Happens.{again_happens, fresh_happens, fresh_belongs}
use Rattle.vch_making.proofs.giving.Ends.{with_call, at_make, formed, asks_for}
use Rattle.vch_making.proofs.giving.Handed.{value_is, handle_few, value_now}

with_twice : {A : Type 0} (k : Key) (a b : A) (x : Keyed A) → with_key k a (with_key k b x) ≡ with_key k a x
with_twice keys.Importance a b x = refl
with_twice keys.Bank a b x = refl
with_twice keys.User a b x = refl
with_twice keys.Test a b x = refl

-- parts that differ in their keys, tasks, history and its room
others_are : (c : Plain) (x y : Keyed KeyParts) (d e : List Part) (h i : List Entry) (m n : ℕ) → x ≡ y → d ≡ e → h ≡ i → m ≡ n
    → record c { keyed = x; tasks = d; history = h; spare = m } ≡ record c { keyed = y; tasks = e; history = i; spare = n }
others_are c x y d e h i m n p q r s = rw (p, q, r, s) refl

one_less : (a b : ℕ) → a + 1 ≡ b → a ≡ b - 1
one_less a b e = omega (arith, e)

module _ (p : Parts) (t : ℕ) (q : Question) (reached : Reached p) (task : is_task p.scenario t ≡ true) (next : IsNext p t (Some kinds.Make)) (e : question_of p t ≡ Some q) (r : Receipt) where
  -- the frame got the receipt
  abbrev pub Gives : Parts → Parts → Type 0
  Gives mid new = IfSome (frame_of mid.frames t) (λ f. new ≡ record mid { frames = with_frame_of (with_frame_of mid.frames t None) t (Some (receiving f q.key r)) })

  module _ (f : Frame) (u : Indices) (call : Call) (own : frame_of p.frames t ≡ Some f) (forming : f.forming ≡ Some u) (is : nth_call p.scenario t (begun_of p.frames t) ≡ Some call)
      (asks : question_by p.scenario.version (desk p.vouchers t).names f.at f.keys u (Some call) ≡ Some q) where
    -- what the event does where a manager replied a value
    happens : (x : Value) (d : Plain) → reply_to p t q ≡ Ok (Some x)
        → ((m : Machine) (st : Stands p m) (g : machine.Frame) (w : Handles) (a : AtCall p.scenario (plain_of p) m t f g kinds.Make) → Forms (plain_of p) g u w
        → asked_by p.scenario m t g w a.call ≡ Some (record { key = q.key; reply = Ok (Some x) }) → Happens p.scenario false kinds.Make t d m)
        → (m : Machine) → Stands p m → Happens p.scenario false kinds.Make t d m
    happens x d reply h m st =
        at_make p t q reached task next f u call own forming is asks m st _ (λ g a.
        formed p t q reached task next f u call own forming is asks m st g a _ (λ w forms.
        h m st g w a forms (asks_for p t q reached task next f u call own forming is asks m st g w a forms ∙ ap (λ z. Some (record { key = q.key; reply = z })) reply)))

    -- A value that was live.

    module _ (x2 : Keyed KeyParts) where
      abbrev given : Parts
      given = record p { values = x2; frames = with_frame_of (with_frame_of p.frames t None) t (Some (receiving f q.key r)) }

      given_is : x2 ≡ with_key q.key (of_key q.key x2) p.values → plain_of given ≡ gave (plain_of p) t f q.key r (of_key q.key x2)
      given_is keyed = others_are (plain_of p) _ _ _ _ _ _ _ _ keyed (tasks_then p t reached task given.frames (Some (receiving f q.key r)) refl) refl refl

      pub again_follows : Answers t q (Ok (made.Receipt r false)) p (record p { values = x2 }) → MayFollow kinds.Make t p given
      again_follows ans = value_is (of_key q.key p.values).kept (of_key q.key x2).kept (reply_to p t q) r false _ ans.call (λ x reply handed rest.
          may_follow kinds.Make t p given false (gave (plain_of p) t f q.key r (of_key q.key x2)) refl (given_is ans.keyed)
          (happens x (gave (plain_of p) t f q.key r (of_key q.key x2)) reply (λ m st g w a forms asked.
          again_happens p.scenario (plain_of p) m t f g u w (ties_of p.scenario (plain_of p) m st) task a forms q.key x r (of_key q.key x2) asked (ans.stands m st)
          (record { slots = ans.slots; handed = handed; rest = rest }) ans.numbers)))

      -- A fresh value.

      module _ (x3 : Keyed KeyParts) (h2 : Entries) (v : Value) (note : NotesMade q.key r.handle v (record p { values = x2 }) (record p { values = x3; history = h2 })) where
        abbrev noted : Parts
        noted = record p { values = x3; history = h2; frames = with_frame_of (with_frame_of p.frames t None) t (Some (receiving f q.key r)) }

        abbrev y : KeyParts
        y = of_key q.key x3

        noted_is : x2 ≡ with_key q.key (of_key q.key x2) p.values → plain_of noted ≡ gave_fresh (plain_of p) t f q.key r y v
        noted_is keyed = others_are (plain_of p) _ _ _ _ _ _ _ _
            (note.keyed ∙ (ap (with_key q.key y) keyed ∙ with_twice q.key y (of_key q.key x2) p.values))
            (tasks_then p t reached task noted.frames (Some (receiving f q.key r)) refl)
            note.entries
            (one_less _ _ note.spare)

        hands : (x : Value) → Answers t q (Ok (made.Receipt r true)) p (record p { values = x2 })
            → Handed (of_key q.key p.values).kept.slots (of_key q.key p.values).kept.free x (Ok (got.Value r.handle true r.persist)) (of_key q.key x2).kept.slots (of_key q.key x2).kept.free
            → (of_key q.key x2).kept ≡ record (of_key q.key p.values).kept { slots = (of_key q.key x2).kept.slots; free = (of_key q.key x2).kept.free }
            → HandsOut r true x (of_key q.key p.values) y
        hands x ans handed rest = record {
          slots = ap (λ (z : entry.Entries). z.slots) note.slots ∙ ans.slots;
          handed = subst (λ (z : Kept). Handed (of_key q.key p.values).kept.slots (of_key q.key p.values).kept.free x (Ok (got.Value r.handle true r.persist)) z.slots z.free) (sym note.kept) handed;
          rest = subst (λ (z : Kept). z ≡ record (of_key q.key p.values).kept { slots = z.slots; free = z.free }) (sym note.kept) rest;
        }

        depicts : Answers t q (Ok (made.Receipt r true)) p (record p { values = x2 }) → (m : Machine) → Stands p m → picture.Depicts (made_picture r (picture_of q.key (plain_of p) m)) y.entries y.kept
        depicts ans m st = subst (λ (z : entry.Entries). picture.Depicts (made_picture r (picture_of q.key (plain_of p) m)) z y.kept) (sym note.slots)
            (subst (λ (z : Kept). picture.Depicts (made_picture r (picture_of q.key (plain_of p) m)) (of_key q.key x2).entries z) (sym note.kept) (ans.stands m st))

        same_value : (x : Value) → value_at (of_key q.key x2).kept.slots r.handle ≡ Some v → value_at (of_key q.key x2).kept.slots r.handle ≡ Some x → x ≡ v
        same_value x a b = same_Some x v (sym b ∙ a)

        pub fresh_follows : HasRoom q.key p → Answers t q (Ok (made.Receipt r true)) p (record p { values = x2 }) → value_at (of_key q.key x2).kept.slots r.handle ≡ Some v → MayFollow kinds.Make t p noted
        fresh_follows room ans live = value_is (of_key q.key p.values).kept (of_key q.key x2).kept (reply_to p t q) r true _ ans.call (λ x reply handed rest.
            may_follow kinds.Make t p noted false (gave_fresh (plain_of p) t f q.key r y x) refl
            (noted_is ans.keyed ∙ ap (gave_fresh (plain_of p) t f q.key r y) (sym (same_value x live (value_now p (record p { values = x2 }) t q r reached ans x handed))))
            (happens x (gave_fresh (plain_of p) t f q.key r y x) reply (λ m st g w a forms asked.
            fresh_happens p.scenario (plain_of p) m t f g u w (ties_of p.scenario (plain_of p) m st) task a forms q.key x r y asked (depicts ans m st)
            (hands x ans handed rest)
            (note.numbers ∙ ap (λ ns. set ns r.handle (length p.history.entries + 1)) ans.numbers)
            (handle_few p (record p { values = x2 }) t q r reached ans room)
            (fresh_belongs p.scenario (plain_of p) m t f g u w (ties_of p.scenario (plain_of p) m st) task a forms q.key x asked handed.1.0)
            (room.entries m st))))

  -- What is called for.

  pub again_given : (mid new : Parts) → Answers t q (Ok (made.Receipt r false)) p mid → Gives mid new → MayFollow kinds.Make t p new
  again_given mid new ans gives = with_call p t q _ e (λ f u call own forming is asks.
      let a : Answers t q (Ok (made.Receipt r false)) p (record p { values = mid.values }) = subst (Answers t q (Ok (made.Receipt r false)) p) ans.others ans in
      let b : Gives (record p { values = mid.values }) new = subst (λ z. Gives z new) ans.others gives in
      let at : new ≡ given f u call own forming is asks mid.values = subst (λ o. IfSome o (λ f. new ≡ record p { values = mid.values; frames = with_frame_of (with_frame_of p.frames t None) t (Some (receiving f q.key r)) })) own b in
      subst (MayFollow kinds.Make t p) (sym at) (again_follows f u call own forming is asks mid.values a))

  pub fresh_given : (mid n new : Parts) (v : Value) → HasRoom q.key p → Answers t q (Ok (made.Receipt r true)) p mid → value_at (of_key q.key mid.values).kept.slots r.handle ≡ Some v
      → NotesMade q.key r.handle v mid n → Gives n new → MayFollow kinds.Make t p new
  fresh_given mid n new v room ans live note gives = with_call p t q _ e (λ f u call own forming is asks.
      let a : Answers t q (Ok (made.Receipt r true)) p (record p { values = mid.values }) = subst (Answers t q (Ok (made.Receipt r true)) p) ans.others ans in
      let b : NotesMade q.key r.handle v (record p { values = mid.values }) n = subst (λ z. NotesMade q.key r.handle v z n) ans.others note in
      let d : NotesMade q.key r.handle v (record p { values = mid.values }) (record p { values = n.values; history = n.history }) = subst (NotesMade q.key r.handle v (record p { values = mid.values })) b.others b in
      let g : Gives (record p { values = n.values; history = n.history }) new = subst (λ z. Gives z new) b.others gives in
      let at : new ≡ noted f u call own forming is asks mid.values n.values n.history v d = subst (λ o. IfSome o (λ f. new ≡ record p { values = n.values; history = n.history; frames = with_frame_of (with_frame_of p.frames t None) t (Some (receiving f q.key r)) })) own g in
      subst (MayFollow kinds.Make t p) (sym at) (fresh_follows f u call own forming is asks mid.values n.values n.history v d room a live))

  one_at_least : (k : Key) (x : Value) (list : List ℕ) → Belongs k x → x ≡ values.Chain list → 1 ≤ length list
  one_at_least k x list b same = by k (subst (Belongs k) same b)
    where
      by : (k : Key) → Belongs k (values.Chain list) → 1 ≤ length list
      by keys.Importance b = b.0
      by keys.Bank b = absurd b
      by keys.User b = absurd b
      by keys.Test b = absurd b

  -- a list that is fresh has a task
  pub fresh_listed : (mid : Parts) → Answers t q (Ok (made.Receipt r true)) p mid → (list : List ℕ) → value_at (of_key q.key mid.values).kept.slots r.handle ≡ Some (values.Chain list) → 1 ≤ length list
  fresh_listed mid ans list live = value_is (of_key q.key p.values).kept (of_key q.key mid.values).kept (reply_to p t q) r true _ ans.call (λ x reply handed rest.
      with_call p t q _ e (λ f u call own forming is asks. from_state p _ reached (λ m st.
      at_make p t q reached task next f u call own forming is asks m st _ (λ g a.
      formed p t q reached task next f u call own forming is asks m st g a _ (λ w forms.
      one_at_least q.key x list
      (fresh_belongs p.scenario (plain_of p) m t f g u w (ties_of p.scenario (plain_of p) m st) task a forms q.key x
      (asks_for p t q reached task next f u call own forming is asks m st g w a forms ∙ ap (λ z. Some (record { key = q.key; reply = z })) reply) handed.1.0)
      (same_Some x (values.Chain list) (sym (value_now p mid t q r reached ans x handed) ∙ live)))))))
