-- A call is answered after its task was changed: the machine's steps in one.
use Rattle.std.proofs.Common.{◌≡◌, ℕ, refl, sym, ap, ◌∙◌, Option, Some, None}
use Rattle.vch_base.proofs.CallerLemmas.{own_item, set_twice}
use Rattle.vch_model.specs.declared.call.Call.{Call}
use Rattle.vch_model.specs.declared.entry.Entry.{Entry}
use Rattle.vch_model.specs.declared.entry.Entry.TheVariants as entries
use Rattle.vch_model.specs.declared.entry.Reply.{Reply}
use Rattle.vch_model.specs.Words.{word_of}
use Rattle.vch_machine.specs.State as machine
use Rattle.vch_machine.specs.State.{Handles, Machine, Tasked, tasked, with_tasked, idle}
use Rattle.vch_machine.specs.Frames.{replied, noted, with_frame}
use Rattle.vch_machine.specs.Naming.{with_name}
use Rattle.vch_legal.proofs.CallerLemmas.{IsAmong}
use Rattle.vch_moves.specs.Steps.{machine_stepped}

-- a name more leaves what was begun
pub named_begun : (y : Tasked) (v : Handles) (o : Option ℕ) → (with_name y v o).begun ≡ y.begun
named_begun y v None = refl
named_begun y v (Some name) = refl

pub named_queue : (y : Tasked) (v : Handles) (o : Option ℕ) → (with_name y v o).queue ≡ y.queue
named_queue y v None = refl
named_queue y v (Some name) = refl

pub named_frame : (y : Tasked) (v : Handles) (o : Option ℕ) → (with_name y v o).frame ≡ y.frame
named_frame y v None = refl
named_frame y v (Some name) = refl

module _ (m : Machine) (t : ℕ) (z : Tasked) (frame : Option machine.Frame) (among : IsAmong t m.tasks) where
  pub own_ : (y : Tasked) → tasked (with_tasked m t y) t ≡ y
  own_ y = own_item m.tasks t y idle among.0 among.1

  -- a task is changed, and then its frame
  pub framed_is : with_frame (with_tasked m t z) t frame ≡ with_tasked m t (record z { frame = frame })
  framed_is = ap (λ (a : Tasked). with_tasked (with_tasked m t z) t (record a { frame = frame })) (own_ z)
      ∙ ap (λ ts. record m { tasks = ts }) (set_twice m.tasks t z (record z { frame = frame }))

  pub noted_is : (e : Entry) → noted (with_frame (with_tasked m t z) t frame) e ≡ machine_stepped m t (record z { frame = frame }) (Some e)
  noted_is e = ap (λ a. noted a e) framed_is

  pub replied_is : (call : Call) (reply : Reply) (n : ℕ) → n ≡ z.begun → machine_stepped m t (record z { frame = frame }) (Some (entries.Call t n (word_of call) reply)) ≡ replied (with_frame (with_tasked m t z) t frame) t call reply
  replied_is call reply n e = ap (λ i. machine_stepped m t (record z { frame = frame }) (Some (entries.Call t i (word_of call) reply))) e
      ∙ ap (λ (a : Tasked). machine_stepped m t (record z { frame = frame }) (Some (entries.Call t a.begun (word_of call) reply))) (sym (own_ (record z { frame = frame })))
      ∙ ap (λ a. replied a t call reply) (sym framed_is)
