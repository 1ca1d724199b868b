-- The event of the parts by each answer without a value, and by being out of memory: the parts between are those of before with
-- more room.
use Rattle.std.proofs.Common.{◌≡◌, ℕ, ◌≤◌, true, ap, ◌∙◌, Some, None}
use Rattle.std.specs.Prelude.{Ok, Err}
use Rattle.vch_base.specs.declared.codes.TheConstants.{KERN_RESOURCE_SHORTAGE}
use Rattle.vch_base.specs.declared.fault.Code.{Code}
use Rattle.vch_base.specs.declared.fault.NoMemory.{NoMemory}
use Rattle.vch_base.specs.declared.kind.Kind.TheVariants as kinds
use Rattle.vch_base.specs.declared.manager.GetFault.TheVariants as fault
use Rattle.vch_base.specs.Keyed.{of_key}
use Rattle.vch_value.specs.declared.flight.Made.TheVariants as made
use Rattle.vch_model.specs.Lines.{is_task}
use Rattle.vch_parts.specs.declared.parts.Parts.{Parts}
use Rattle.vch_parts.specs.Framed.{frame_of}
use Rattle.vch_parts.specs.Nexts.{value_kind}
use Rattle.vch_parts.specs.Reached.{Reached, IsNext, MayFollow}
use Rattle.vch_making.specs.declared.question.Question.{Question}
use Rattle.vch_making.specs.Given.{IsRoomier}
use Rattle.vch_making.specs.Refused.{IsRefused, IsOther}
use Rattle.vch_making.specs.Answers.{Answers, IsLoss, question_of, reply_to}
use Rattle.vch_making.proofs.giving.Roomier.{roomier_reached}
use Rattle.vch_making.proofs.giving.Follows.{nothing_is, refused_is, memory_is, answer_roomier, roomier_next, roomier_question, roomier_may}
use Rattle.vch_making.proofs.giving.Ends.{make_has_room, wants_follows, refused_follows, none_follows, same_reply}
use Rattle.vch_making.proofs.questions.There.{make_idle}
use Rattle.vch_making.proofs.refusals.OwnCodes.{other_code}

-- Each answer without a value leaves more room, and nothing else.

pub none_roomier : (p mid : Parts) (t : ℕ) (q : Question) → Answers t q (Ok made.Nothing) p mid → IsRoomier p mid
none_roomier p mid t q ans = answer_roomier t q (Ok made.Nothing) p mid ans (nothing_is (of_key q.key p.values).kept (of_key q.key mid.values).kept (reply_to p t q) ans.call).1

pub refused_roomier : (p mid : Parts) (t : ℕ) (q : Question) (c : Code) → Answers t q (Err (fault.Refused c)) p mid → IsRoomier p mid
refused_roomier p mid t q c ans = answer_roomier t q (Err (fault.Refused c)) p mid ans (refused_is (of_key q.key p.values).kept (of_key q.key mid.values).kept (reply_to p t q) c ans.call).1

pub memory_roomier : (p mid : Parts) (t : ℕ) (q : Question) (cause : NoMemory) → Answers t q (Err (fault.NoMemory cause)) p mid → IsRoomier p mid
memory_roomier p mid t q cause ans = answer_roomier t q (Err (fault.NoMemory cause)) p mid ans (memory_is (of_key q.key p.values).kept (of_key q.key mid.values).kept (reply_to p t q) cause ans.call)

pub refused_other : (p mid : Parts) (t : ℕ) (q : Question) (c : Code) → Answers t q (Err (fault.Refused c)) p mid → IsOther c
refused_other p mid t q c ans = other_code p t q c (refused_is (of_key q.key p.values).kept (of_key q.key mid.values).kept (reply_to p t q) c ans.call).0

module _ (p mid : Parts) (t : ℕ) (q : Question) (reached : Reached p) (task : is_task p.scenario t ≡ true) (next : IsNext p t (Some kinds.Make)) (e : question_of p t ≡ Some q) (room : IsRoomier p mid) where
  pub mid_reached : Reached mid
  mid_reached = roomier_reached p mid room reached

  pub mid_task : is_task mid.scenario t ≡ true
  mid_task = ap (λ (x : Parts). is_task x.scenario t) room.others ∙ task

  pub mid_next : IsNext mid t (Some kinds.Make)
  mid_next = roomier_next p mid t room reached task next

  pub mid_question : question_of mid t ≡ Some q
  mid_question = roomier_question p mid t room ∙ e

  pub mid_idle : value_kind (frame_of mid.frames t) ≡ None
  mid_idle = make_idle mid t mid_reached mid_task mid_next

  pub mid_room : 1 ≤ mid.history.spare
  mid_room = make_has_room mid t q mid_reached mid_task mid_next mid_question

  pub mid_wants : (new : Parts) → IsRefused t KERN_RESOURCE_SHORTAGE mid new → MayFollow kinds.Make t p new
  mid_wants new r = roomier_may p mid new t room (wants_follows mid new t q mid_reached mid_task mid_next mid_question r)

  pub none_given : (new : Parts) → Answers t q (Ok made.Nothing) p mid → IsLoss t q.key mid new → MayFollow kinds.Make t p new
  none_given new ans l =
      let z = nothing_is (of_key q.key p.values).kept (of_key q.key mid.values).kept (reply_to p t q) ans.call in
      roomier_may p mid new t room (none_follows mid new t q mid_reached mid_task mid_next mid_question (same_reply t q (Ok made.Nothing) p mid ans z.1 ∙ z.0) l)

  pub refused_given : (new : Parts) (c : Code) → Answers t q (Err (fault.Refused c)) p mid → IsRefused t c.number mid new → MayFollow kinds.Make t p new
  refused_given new c ans r =
      let z = refused_is (of_key q.key p.values).kept (of_key q.key mid.values).kept (reply_to p t q) c ans.call in
      roomier_may p mid new t room (refused_follows mid new t q c.number mid_reached mid_task mid_next mid_question (same_reply t q (Err (fault.Refused c)) p mid ans z.1 ∙ z.0) r)
