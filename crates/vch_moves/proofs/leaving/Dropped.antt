-- A drop keeps all that the parts stand for.
use Rattle.std.proofs.Common.{◌≡◌, ℕ, ◌+◌, ◌-◌, ◌<◌, ◌≤◌, List, refl, arith, sym, ap, ◌∙◌, length, subst, Option, None}
use Rattle.std.specs.List.{flat_map}
use Rattle.vch_base.specs.Managers.{count}
use Rattle.vch_model.specs.declared.call.Call.{Call}
use Rattle.vch_model.specs.declared.entry.Entry.TheVariants as entries
use Rattle.vch_model.specs.declared.entry.Reply.{Reply}
use Rattle.vch_model.specs.declared.lists.Scenario.{Scenario}
use Rattle.vch_model.specs.Words.{word_of}
use Rattle.vch_machine.specs.State as machine
use Rattle.vch_machine.specs.State.{Handles, Place, Machine, Tasked, tasked, with_tasked, idle}
use Rattle.vch_machine.specs.Frames as frames
use Rattle.vch_machine.specs.Naming as naming
use Rattle.vch_machine.specs.Naming.{handles_of}
use Rattle.vch_machine.specs.Beginning as begins
use Rattle.vch_legal.specs.ValueAmounts.{IsUncounted}
use Rattle.vch_legal.proofs.CallerLemmas.{IsAmong}
use Rattle.vch_base.proofs.CallerLemmas.{own_item, set_twice}
use Rattle.vch_frame.specs.declared.frame.KeyIndex.{KeyIndex}
use Rattle.vch_parts.specs.declared.frame.Frame.{Frame}
use Rattle.vch_parts.specs.Plain.{Plain, part_of, closed}
use Rattle.vch_parts.specs.Shape.{IsTask}
use Rattle.vch_parts.specs.Pictures.{frame_holds, let_holds}
use Rattle.vch_parts.specs.Stands.{StandsFor}
use Rattle.vch_parts.proofs.CallerLemmas.{closed_frames, holds_closed}
use Rattle.vch_vouchers.specs.Desks.{voucher_of}
use Rattle.vch_moves.specs.Steps.{machine_stepped, dropped, leaving_frame, less_named, first_answer, IsIdle}
use Rattle.vch_moves.specs.Desks.{AllApart}
use Rattle.vch_moves.proofs.desks.Names.{voucher_is, names_less}
use Rattle.vch_moves.proofs.holding.Vouchers.{task_less}
use Rattle.vch_moves.proofs.keeping.Idle.{idle_closed}
use Rattle.vch_moves.proofs.ending.Ends.{answer_quiet}
use Rattle.vch_moves.proofs.ending.Replies.{replied_is}
use Rattle.vch_moves.proofs.leaving.GivesUp.{GivesUp, Leaves, gives_up_stands}

module _ (sc : Scenario) (c : Plain) (m : Machine) (t : ℕ) (positive : 0 < t) (inside : t - 1 < length c.tasks) (s : StandsFor sc c m) (apart : AllApart c.keyed)
    (call : Call) (reply : Reply) (name : ℕ) (own : (part_of c t).frame ≡ None) (task : (tasked m t).frame ≡ None)
    (uncounted : IsUncounted sc m.past (entries.Call t ((part_of c t).begun + 1) (word_of call) reply)) (room : 1 ≤ c.spare) where
  among : IsAmong t m.tasks
  among = (positive, omega (arith, s.shape.long, inside))

  abbrev z : Tasked
  z = record (begins.begun_one (tasked m t)) { names = naming.one_less (tasked m t).names name }

  abbrev fs : List KeyIndex → Option Frame
  fs ls = closed (leaving_frame ls)

  abbrev gs : List Place → Option machine.Frame
  gs ps = frames.closed (begins.leaving_frame ps)

  now : IsTask c.keyed (part_of c t) (tasked m t)
  now = s.shape.tasks t positive inside

  gives : GivesUp c m t (less_named (part_of c t) name) z (voucher_of (part_of c t).names name) (handles_of (tasked m t).names name)
  gives = record {
    positive = positive;
    inside = inside;
    task = record { names = names_less c.keyed (part_of c t).names (tasked m t).names name now.names; next = now.next; queue = now.queue; begun = ap (λ n. n + 1) now.begun; frame = now.frame };
    limit = refl;
    voucher = voucher_is c.keyed (part_of c t).names (tasked m t).names name now.names;
    less = task_less (tasked m t) name;
  }

  zero_first : (n : ℕ) → n ≡ 0 + n
  zero_first n = omega arith

  leaves : Leaves c.keyed (tasked m t).frame fs gs
  leaves = record {
    related = λ ls ps r. closed_frames c.keyed (leaving_frame ls) (begins.leaving_frame ps) (record { forming = tt; answered = refl; at_byte = refl; keys = refl; receipt = tt; lets = r; claim = tt });
    idle = λ ls. idle_closed (leaving_frame ls) (refl, refl);
    holds = λ k h ps. ap (count h) (holds_closed k (begins.leaving_frame ps) (λ e. refl)) ∙ zero_first (count h (flat_map (let_holds k) ps)) ∙ sym (ap (λ o. count h (frame_holds k o) + count h (flat_map (let_holds k) ps)) task);
  }

  abbrev mid : Machine
  mid = with_tasked m t (begins.begun_one (tasked m t))

  same_mid : with_tasked mid t (record (tasked mid t) { names = naming.one_less (tasked mid t).names name }) ≡ with_tasked m t z
  same_mid = ap (λ (a : Tasked). with_tasked mid t (record a { names = naming.one_less a.names name })) (own_item m.tasks t (begins.begun_one (tasked m t)) idle among.0 among.1)
      ∙ ap (λ ts. record m { tasks = ts }) (set_twice m.tasks t (begins.begun_one (tasked m t)) z)

  is_dropped : machine_stepped m t (record z { frame = gs (naming.orphaned (with_tasked m t z) (handles_of (tasked m t).names name)) }) (first_answer c t call reply)
      ≡ begins.dropped mid t call reply (handles_of (tasked mid t).names name) name
  is_dropped = replied_is m t z (gs (naming.orphaned (with_tasked m t z) (handles_of (tasked m t).names name))) among call reply ((part_of c t).begun + 1) (ap (λ n. n + 1) now.begun)
      ∙ ap (λ a. frames.replied (frames.with_frame a t (gs (naming.orphaned a (handles_of (tasked m t).names name)))) t call reply) (sym same_mid)
      ∙ ap (λ (b : Tasked). begins.dropped mid t call reply (handles_of b.names name) name) (sym (own_item m.tasks t (begins.begun_one (tasked m t)) idle among.0 among.1))

  pub dropped_stands : StandsFor sc (dropped c t call reply name) (begins.dropped mid t call reply (handles_of (tasked mid t).names name) name)
  dropped_stands = subst (StandsFor sc (dropped c t call reply name)) is_dropped
      (gives_up_stands sc c m t (less_named (part_of c t) name) z (voucher_of (part_of c t).names name) (handles_of (tasked m t).names name) (first_answer c t call reply) s apart gives fs gs leaves
      (subst IsIdle (sym own) tt) (answer_quiet sc m.past t ((part_of c t).begun + 1) (word_of call) reply uncounted) room)
