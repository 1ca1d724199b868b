-- The histories that are not legal, each by what can't be.
use Rattle.std.proofs.Common.{lit≤, refl, inl, inr, ◌≡◌, ◌<◌, ◌≤◌, true, false, Option, Some, None, ℕ, ℤ, pos, negsuc, ap, arith}
use Rattle.vch_base.specs.Words.{word}
use Rattle.vch_recipe.specs.Recipes.{word_at}
use Rattle.vch_model.specs.declared.call.Call.TheVariants as calls
use Rattle.vch_model.specs.declared.call.Word.TheVariants as words
use Rattle.vch_base.specs.declared.codes.TheConstants.{KERN_RESOURCE_SHORTAGE, KERN_NO_ACCESS, KERN_INVALID_CAPABILITY, MIG_ARRAY_TOO_LARGE, MACH_SEND_TIMED_OUT}
use Rattle.vch_model.specs.declared.entry.Reply.{Reply}
use Rattle.vch_model.specs.declared.entry.Reply.TheVariants as replies
use Rattle.vch_model.specs.Replies.{refused}
use Rattle.vch_model.specs.Eval.{create, eval_all}
use Rattle.vch_model.specs.Legal.{reaches}
use Rattle.vch_model.specs.Illegal as illegal
use Rattle.vch_model.specs.IllegalHistories.{IsRefused, AreIllegal}

-- What can't be.

apart : true ≡ false → ⊥
apart e = cc

pub unlike : false ≡ true → ⊥
unlike e = cc

too_many : 9 ≤ 8 → ⊥
too_many e = omega arith

pub no_call : ◌≡◌ {A = ℕ} 0 1 → ⊥
no_call e = omega arith

one_phase : 1 < 1 → ⊥
one_phase e = omega arith

pub no_second : ◌≡◌ {A = ℕ} 1 2 → ⊥
no_second e = omega arith

no_word : words.Ledger ≡ words.Live → ⊥
no_word e = cc

abbrev at_name : ℕ → Option ℕ
at_name n = Some n

abbrev at_none : Option ℕ
at_none = None

other_lowest : at_name 1 ≡ at_name 2 → ⊥
other_lowest e = cc

no_lowest : at_none ≡ at_name 1 → ⊥
no_lowest e = cc

no_exit : Some (calls.GiveUp 1) ≡ Some calls.Exit → ⊥
no_exit e = cc

-- Replies that differ.

pub done_refused : {c : ℤ} → replies.Done ≡ refused c → ⊥
done_refused e = cc

refused_done : {c : ℤ} → refused c ≡ replies.Done → ⊥
refused_done e = cc

pub created_refused : {c : ℤ} → (n : ℕ) → replies.Created n ≡ refused c → ⊥
created_refused n e = cc

pub received_refused : {c : ℤ} → (s i n : ℕ) → replies.Received s i n ≡ refused c → ⊥
received_refused s i n e = cc

abbrev number_in : Reply → ℤ
number_in (replies.Refused code) = code.number
number_in reply = pos 0

not_too_large : refused KERN_RESOURCE_SHORTAGE ≡ refused MIG_ARRAY_TOO_LARGE → ⊥
not_too_large e = apart_sign (ap number_in e)
  where
    apart_sign : pos 6 ≡ negsuc 306 → ⊥
    apart_sign f = cc

not_no_access : refused KERN_RESOURCE_SHORTAGE ≡ refused KERN_NO_ACCESS → ⊥
not_no_access e = apart_numbers (ap number_in e)
  where
    apart_numbers : pos 6 ≡ pos 8 → ⊥
    apart_numbers f = cc

not_timed_out : refused KERN_RESOURCE_SHORTAGE ≡ refused MACH_SEND_TIMED_OUT → ⊥
not_timed_out e = apart_numbers (ap number_in e)
  where
    apart_numbers : pos 6 ≡ pos 268435460 → ⊥
    apart_numbers f = cc

not_capability : refused KERN_RESOURCE_SHORTAGE ≡ refused KERN_INVALID_CAPABILITY → ⊥
not_capability e = apart_numbers (ap number_in e)
  where
    apart_numbers : pos 6 ≡ pos 20 → ⊥
    apart_numbers f = cc

refused_received : {c : ℤ} → (s i n : ℕ) → refused c ≡ replies.Received s i n → ⊥
refused_received s i n e = cc

other_message : replies.Received 1 2 0 ≡ replies.Received 1 1 0 → ⊥
other_message e = cc

other_name : replies.Created 2 ≡ replies.Created 1 → ⊥
other_name e = cc

released_while_named : IsRefused illegal.released_while_named
unfolding create eval_all reaches word_at word
released_while_named = (((tt, (tt, refl, refl)), (refl, (refl, inl (refl, refl, refl)))), λ p. apart p.1)

released_while_queued : IsRefused illegal.released_while_queued
unfolding create eval_all reaches word_at word
released_while_queued = ((((tt, (tt, refl, refl)), (refl, (refl, inl (refl, refl, refl)))), (refl, (refl, inl (refl, refl, refl)))), λ p. apart p.1)

released_twice : IsRefused illegal.released_twice
unfolding create eval_all reaches word_at word
released_twice = (((((tt, (tt, refl, refl)), (refl, (refl, inl (refl, refl, refl)))), (refl, (refl, inl (refl, refl, refl)))), refl), λ p. p.1)

released_call : IsRefused illegal.released_call
unfolding create eval_all reaches word_at word
released_call = (((tt, (tt, refl, refl)), (refl, (refl, inl (refl, refl, refl)))), λ p. p.1)

made_twice : IsRefused illegal.made_twice
unfolding create eval_all reaches word_at word
made_twice = ((tt, (tt, refl, refl)), λ p. apart p.1.2)

made_default : IsRefused illegal.made_default
unfolding create eval_all reaches word_at word
made_default = (tt, λ p. apart p.1.2)

made_of_no_task : IsRefused illegal.made_of_no_task
unfolding create eval_all reaches word_at word
made_of_no_task = (tt, λ p. unlike p.1.1)

made_of_nine : IsRefused illegal.made_of_nine
unfolding create eval_all reaches word_at word
made_of_nine = (tt, λ p. too_many p.1.0.1)

made_at_other_key : IsRefused illegal.made_at_other_key
unfolding create eval_all reaches word_at word
made_at_other_key = (tt, λ p. p.1.0)

made_8_in_version_1 : IsRefused illegal.made_8_in_version_1
unfolding create eval_all reaches word_at word
made_8_in_version_1 = (tt, λ p. p.1.0)

phase_with_unheld : IsRefused illegal.phase_with_unheld
unfolding create eval_all reaches word_at word
phase_with_unheld = ((((tt, (tt, refl, refl)), (refl, (refl, inl (refl, refl, refl)))), (refl, (refl, inl (refl, refl, refl)))), λ p. unlike p.1.1)

phase_before_call : IsRefused illegal.phase_before_call
unfolding create eval_all reaches word_at word
phase_before_call = (tt, λ p. no_call p.1.2.1)

phase_too_many : IsRefused illegal.phase_too_many
unfolding create eval_all reaches word_at word
phase_too_many = (((tt, (refl, (refl, inl (refl, refl, refl)))), (lit≤ tt, refl, (tt, refl))), λ p. one_phase p.1.0)

call_of_next_phase : IsRefused illegal.call_of_next_phase
unfolding create eval_all reaches word_at word
call_of_next_phase = ((tt, (refl, (refl, inl (refl, refl, refl)))), λ p. p.1.1)

call_twice : IsRefused illegal.call_twice
unfolding create eval_all reaches word_at word
call_twice = ((tt, (refl, (refl, inl (refl, refl, refl)))), λ p. no_second p.1.0)

other_word : IsRefused illegal.other_word
unfolding create eval_all reaches word_at word
other_word = (tt, λ p. no_word p.1.1.0)

drop_out_of_memory : IsRefused illegal.drop_out_of_memory
unfolding create eval_all reaches word_at word
drop_out_of_memory = (((tt, (tt, refl, refl)), (refl, (refl, inl (refl, refl, refl)))), λ p. elim p.1.1.1 [ inl a ↦ refused_done a.1 | inr (inl b) ↦ unlike b.1 | inr (inr d) ↦ unlike d.0 ])

exit_out_of_memory : IsRefused illegal.exit_out_of_memory
unfolding create eval_all reaches word_at word
exit_out_of_memory = (tt, λ p. elim p.1.1.1 [ inl a ↦ apart a.0 | inr (inl b) ↦ unlike b.1 | inr (inr d) ↦ refused_done d.2 ])

long_create_out_of_memory : IsRefused illegal.long_create_out_of_memory
unfolding create eval_all reaches word_at word
long_create_out_of_memory = (tt, λ p. elim p.1.1.1 [ inl a ↦ not_too_large a.1 | inr (inl b) ↦ unlike b.1 | inr (inr d) ↦ unlike d.0 ])

refused_create_out_of_memory : IsRefused illegal.refused_create_out_of_memory
unfolding create eval_all reaches word_at word
refused_create_out_of_memory = (tt, λ p. elim p.1.1.1 [ inl a ↦ not_no_access a.1 | inr (inl b) ↦ unlike b.1 | inr (inr d) ↦ unlike d.0 ])

full_send_out_of_memory : IsRefused illegal.full_send_out_of_memory
unfolding create eval_all reaches word_at word
full_send_out_of_memory = ((((tt, (tt, refl, refl)), (refl, (refl, inl (refl, refl, refl)))), (refl, (refl, inl (refl, refl, refl)))), λ p. elim p.1.1.1 [ inl a ↦ not_timed_out a.1 | inr (inl b) ↦ unlike b.1 | inr (inr d) ↦ unlike d.0 ])

bare_receive_out_of_memory : IsRefused illegal.bare_receive_out_of_memory
unfolding create eval_all reaches word_at word
bare_receive_out_of_memory = ((tt, (refl, (refl, inl (refl, refl, refl)))), λ p. elim p.1.1.1 [ inl a ↦ refused_received 1 1 0 a.1 | inr (inl b) ↦ unlike b.1 | inr (inr d) ↦ unlike d.0 ])

bare_send_out_of_memory : IsRefused illegal.bare_send_out_of_memory
unfolding create eval_all reaches word_at word
bare_send_out_of_memory = (tt, λ p. elim p.1.1.1 [ inl a ↦ refused_done a.1 | inr (inl b) ↦ unlike b.1 | inr (inr d) ↦ unlike d.0 ])

unknown_extract_out_of_memory : IsRefused illegal.unknown_extract_out_of_memory
unfolding create eval_all reaches word_at word
unknown_extract_out_of_memory = (tt, λ p. elim p.1.1.1 [ inl a ↦ not_capability a.1 | inr (inl b) ↦ unlike b.1 | inr (inr d) ↦ unlike d.0 ])

received_out_of_order : IsRefused illegal.received_out_of_order
unfolding create eval_all reaches word_at word
received_out_of_order = (((tt, (refl, (refl, inl (refl, refl, refl)))), (refl, (refl, inl (refl, refl, refl)))), λ p. elim p.1.1.1 [ inl a ↦ other_message a.1 | inr (inl b) ↦ received_refused 1 2 0 b.0 | inr (inr d) ↦ unlike d.0 ])

sent_past_limit : IsRefused illegal.sent_past_limit
unfolding create eval_all reaches word_at word
sent_past_limit = ((tt, (refl, (refl, inl (refl, refl, refl)))), λ p. elim p.1.1.1 [ inl a ↦ done_refused a.1 | inr (inl b) ↦ done_refused b.0 | inr (inr d) ↦ unlike d.0 ])

counted_past_bound : IsRefused illegal.counted_past_bound
unfolding create eval_all reaches word_at word
counted_past_bound = (((((((tt, ((lit≤ tt, lit≤ tt), refl, refl)), (refl, (refl, inl (refl, refl, refl)))), (refl, (refl, inl (refl, refl, refl)))), ((lit≤ tt, lit≤ tt), refl, refl)), (refl, (refl, inl (refl, refl, refl)))), (refl, (refl, inl (refl, refl, refl)))), λ p. elim p.1.1.1 [ inl a ↦ done_refused a.1 | inr (inl b) ↦ done_refused b.0 | inr (inr d) ↦ unlike d.0 ])

second_name : IsRefused illegal.second_name
unfolding create eval_all reaches word_at word
second_name = (((tt, (tt, refl, refl)), (refl, (refl, inl (refl, refl, refl)))), λ p. elim p.1.1.1 [ inl a ↦ other_name a.1 | inr (inl b) ↦ created_refused 2 b.0 | inr (inr d) ↦ unlike d.0 ])

created_unmade : IsRefused illegal.created_unmade
unfolding create eval_all reaches word_at word
created_unmade = (tt, λ p. elim p.1.1.1 [ inl a ↦ unlike a.2 | inr (inl b) ↦ created_refused 1 b.0 | inr (inr d) ↦ unlike d.0 ])

charged_default : IsRefused illegal.charged_default
unfolding create eval_all reaches word_at word
charged_default = ((((tt, (refl, (refl, inl (refl, refl, refl)))), (tt, refl, refl)), (refl, (refl, inl (refl, refl, refl)))), λ p. elim p.1.1.1 [ inl a ↦ done_refused a.1 | inr (inl b) ↦ done_refused b.0 | inr (inr d) ↦ unlike d.0 ])

gone_not_lowest : IsRefused illegal.gone_not_lowest
unfolding create eval_all reaches word_at word
gone_not_lowest = (((((tt, (tt, refl, refl)), (refl, (refl, inl (refl, refl, refl)))), (tt, refl, refl)), (refl, (refl, inl (refl, refl, refl)))), λ p. other_lowest p.1.1)

gone_unknown : IsRefused illegal.gone_unknown
unfolding create eval_all reaches word_at word
gone_unknown = (tt, λ p. no_lowest p.1.1)

gone_without_exit : IsRefused illegal.gone_without_exit
unfolding create eval_all reaches word_at word
gone_without_exit = (((tt, (tt, refl, refl)), (refl, (refl, inl (refl, refl, refl)))), λ p. no_exit p.1.0)

lost_while_named : IsRefused illegal.lost_while_named
unfolding create eval_all reaches word_at word
lost_while_named = ((((tt, (tt, refl, refl)), (refl, (refl, inl (refl, refl, refl)))), (refl, (refl, inl (refl, refl, refl)))), λ p. unlike p.1.1)

lost_of_none : IsRefused illegal.lost_of_none
unfolding create eval_all reaches word_at word
lost_of_none = (tt, λ p. apart p.1.2)

left_with_name : IsRefused illegal.left_with_name
unfolding create eval_all reaches word_at word
left_with_name = (((tt, (tt, refl, refl)), (refl, (refl, inl (refl, refl, refl)))), λ p. elim p.1.1.1 [ inl a ↦ apart a.0 | inr (inl b) ↦ unlike b.1 | inr (inr d) ↦ unlike d.1 ])

left_with_message : IsRefused illegal.left_with_message
unfolding create eval_all reaches word_at word
left_with_message = ((((((tt, (tt, refl, refl)), (refl, (refl, inl (refl, refl, refl)))), (refl, (refl, inl (refl, refl, refl)))), (refl, refl)), refl), λ p. elim p.1.1.1 [ inl a ↦ apart a.0 | inr (inl b) ↦ unlike b.1 | inr (inr d) ↦ unlike d.1 ])

pub are_illegal : AreIllegal
are_illegal = record {
  released_while_named = released_while_named;
  released_while_queued = released_while_queued;
  released_twice = released_twice;
  released_call = released_call;
  made_twice = made_twice;
  made_default = made_default;
  made_of_no_task = made_of_no_task;
  made_of_nine = made_of_nine;
  made_at_other_key = made_at_other_key;
  made_8_in_version_1 = made_8_in_version_1;
  phase_with_unheld = phase_with_unheld;
  phase_before_call = phase_before_call;
  phase_too_many = phase_too_many;
  call_of_next_phase = call_of_next_phase;
  call_twice = call_twice;
  other_word = other_word;
  drop_out_of_memory = drop_out_of_memory;
  exit_out_of_memory = exit_out_of_memory;
  long_create_out_of_memory = long_create_out_of_memory;
  refused_create_out_of_memory = refused_create_out_of_memory;
  full_send_out_of_memory = full_send_out_of_memory;
  bare_receive_out_of_memory = bare_receive_out_of_memory;
  bare_send_out_of_memory = bare_send_out_of_memory;
  unknown_extract_out_of_memory = unknown_extract_out_of_memory;
  received_out_of_order = received_out_of_order;
  sent_past_limit = sent_past_limit;
  counted_past_bound = counted_past_bound;
  second_name = second_name;
  created_unmade = created_unmade;
  charged_default = charged_default;
  gone_not_lowest = gone_not_lowest;
  gone_unknown = gone_unknown;
  gone_without_exit = gone_without_exit;
  lost_while_named = lost_while_named;
  lost_of_none = lost_of_none;
  left_with_name = left_with_name;
  left_with_message = left_with_message;
}
