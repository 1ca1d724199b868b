-- What may not follow, each by what can't be.
use Rattle.std.proofs.Common.{lit≤, refl, inl, inr, ◌≡◌, ◌≤◌, Option, Some, None, ℕ, arith}
use Rattle.vch_base.specs.Words.{word}
use Rattle.vch_recipe.specs.Recipes.{word_at}
use Rattle.vch_model.specs.declared.call.Call.{Call}
use Rattle.vch_model.specs.declared.call.Call.TheVariants as calls
use Rattle.vch_model.specs.Eval.{create, eval_all}
use Rattle.vch_model.specs.Legal.{reaches}
use Rattle.vch_model.specs.IllegalHistories.{IsRefused}
use Rattle.vch_model.specs.IllegalMore as illegal
use Rattle.vch_model.specs.IllegalRows.{AreRefused}
use Rattle.vch_model.proofs.illegal.IllegalHistories.{unlike, no_call, no_second, done_refused, created_refused, received_refused}

no_first : ◌≡◌ {A = ℕ} 2 1 → ⊥
no_first e = omega arith

no_task : 1 ≤ 0 → ⊥
no_task e = omega arith

no_current : ◌≡◌ {A = Option Call} None (Some calls.Exit) → ⊥
no_current e = cc

not_live : Some calls.Live ≡ Some calls.Exit → ⊥
not_live e = cc

not_recv : Some calls.Recv ≡ Some calls.Exit → ⊥
not_recv e = cc

sent_unmade : IsRefused illegal.sent_unmade
unfolding create eval_all reaches word_at word
sent_unmade = ((tt, (refl, (refl, inl (refl, refl, refl)))), λ p. elim p.1.1.1 [ inl a ↦ unlike a.2 | inr (inl b) ↦ done_refused b.0 | inr (inr d) ↦ unlike d.0 ])

received_unmade_account : IsRefused illegal.received_unmade_account
unfolding create eval_all reaches word_at word
received_unmade_account = ((((tt, (refl, (refl, inl (refl, refl, refl)))), (tt, refl, refl)), (refl, (refl, inl (refl, refl, refl)))), λ p. elim p.1.1.1 [ inl a ↦ unlike a.2 | inr (inl b) ↦ received_refused 1 1 1 b.0 | inr (inr d) ↦ unlike d.0 ])

received_unmade_list : IsRefused illegal.received_unmade_list
unfolding create eval_all reaches word_at word
received_unmade_list = ((((tt, ((lit≤ tt, lit≤ tt), refl, refl)), (refl, (refl, inl (refl, refl, refl)))), (refl, (refl, inl (refl, refl, refl)))), λ p. elim p.1.1.1 [ inl a ↦ unlike a.2 | inr (inl b) ↦ received_refused 1 1 1 b.0 | inr (inr d) ↦ unlike d.0 ])

created_unmade_test : IsRefused illegal.created_unmade_test
unfolding create eval_all reaches word_at word
created_unmade_test = ((tt, (tt, refl, refl)), λ p. elim p.1.1.1 [ inl a ↦ unlike a.2 | inr (inl b) ↦ created_refused 1 b.0 | inr (inr d) ↦ unlike d.0 ])

created_unmade_list : IsRefused illegal.created_unmade_list
unfolding create eval_all reaches word_at word
created_unmade_list = ((tt, (tt, refl, refl)), λ p. elim p.1.1.1 [ inl a ↦ unlike a.2 | inr (inl b) ↦ created_refused 1 b.0 | inr (inr d) ↦ unlike d.0 ])

phase_with_unheld_test : IsRefused illegal.phase_with_unheld_test
unfolding create eval_all reaches word_at word
phase_with_unheld_test = (((((tt, (tt, refl, refl)), (tt, refl, refl)), (refl, (refl, inl (refl, refl, refl)))), (refl, (refl, inl (refl, refl, refl)))), λ p. unlike p.1.1)

made_of_no_second : IsRefused illegal.made_of_no_second
unfolding create eval_all reaches word_at word
made_of_no_second = (tt, λ p. unlike p.1.1)

made_of_no_first : IsRefused illegal.made_of_no_first
unfolding create eval_all reaches word_at word
made_of_no_first = (tt, λ p. unlike p.1.1)

made_of_no_merchant : IsRefused illegal.made_of_no_merchant
unfolding create eval_all reaches word_at word
made_of_no_merchant = (tt, λ p. unlike p.1.1)

made_of_no_holder : IsRefused illegal.made_of_no_holder
unfolding create eval_all reaches word_at word
made_of_no_holder = (tt, λ p. unlike p.1.1)

made_of_task_3 : IsRefused illegal.made_of_task_3
unfolding create eval_all reaches word_at word
made_of_task_3 = (tt, λ p. unlike p.1.1)

phase_before_second : IsRefused illegal.phase_before_second
unfolding create eval_all reaches word_at word
phase_before_second = ((tt, (refl, (refl, inl (refl, refl, refl)))), λ p. no_call p.1.2.1)

phase_before_first : IsRefused illegal.phase_before_first
unfolding create eval_all reaches word_at word
phase_before_first = ((tt, (refl, (refl, inl (refl, refl, refl)))), λ p. no_call p.1.2.0.1)

first_phase_with_unheld : IsRefused illegal.first_phase_with_unheld
unfolding create eval_all reaches word_at word
first_phase_with_unheld = ((((tt, (tt, refl, refl)), (refl, (refl, inl (refl, refl, refl)))), (refl, (refl, inl (refl, refl, refl)))), λ p. unlike p.1.1)

number_again : IsRefused illegal.number_again
unfolding create eval_all reaches word_at word
number_again = ((tt, (refl, (refl, inl (refl, refl, refl)))), λ p. no_second p.1.0)

number_skipped : IsRefused illegal.number_skipped
unfolding create eval_all reaches word_at word
number_skipped = (tt, λ p. no_first p.1.0)

gone_before_its_phase : IsRefused illegal.gone_before_its_phase
unfolding create eval_all reaches word_at word
gone_before_its_phase = (((tt, (tt, refl, refl)), (refl, (refl, inl (refl, refl, refl)))), λ p. no_current p.1.0)

lost_before_its_phase : IsRefused illegal.lost_before_its_phase
unfolding create eval_all reaches word_at word
lost_before_its_phase = ((tt, (refl, (refl, inl (refl, refl, refl)))), λ p. no_current p.1.0)

gone_of_other : IsRefused illegal.gone_of_other
unfolding create eval_all reaches word_at word
gone_of_other = (((tt, (tt, refl, refl)), (refl, (refl, inl (refl, refl, refl)))), λ p. not_live p.1.0)

lost_of_other : IsRefused illegal.lost_of_other
unfolding create eval_all reaches word_at word
lost_of_other = ((tt, (refl, (refl, inl (refl, refl, refl)))), λ p. not_live p.1.0)

lost_by_recv : IsRefused illegal.lost_by_recv
unfolding create eval_all reaches word_at word
lost_by_recv = ((tt, (refl, (refl, inl (refl, refl, refl)))), λ p. not_recv p.1.0)

made_of_nobody : IsRefused illegal.made_of_nobody
made_of_nobody = (tt, λ p. no_task p.1.0.0)

made_task_as_list : IsRefused illegal.made_task_as_list
made_task_as_list = (tt, λ p. p.1.0)

made_task_as_test : IsRefused illegal.made_task_as_test
made_task_as_test = (tt, λ p. p.1.0)

pub are_refused : AreRefused
are_refused = record {
  sent_unmade = sent_unmade;
  received_unmade_account = received_unmade_account;
  received_unmade_list = received_unmade_list;
  created_unmade_test = created_unmade_test;
  created_unmade_list = created_unmade_list;
  phase_with_unheld_test = phase_with_unheld_test;
  made_of_no_second = made_of_no_second;
  made_of_no_first = made_of_no_first;
  made_of_no_merchant = made_of_no_merchant;
  made_of_no_holder = made_of_no_holder;
  made_of_task_3 = made_of_task_3;
  phase_before_second = phase_before_second;
  phase_before_first = phase_before_first;
  first_phase_with_unheld = first_phase_with_unheld;
  number_again = number_again;
  number_skipped = number_skipped;
  gone_before_its_phase = gone_before_its_phase;
  lost_before_its_phase = lost_before_its_phase;
  gone_of_other = gone_of_other;
  lost_of_other = lost_of_other;
  lost_by_recv = lost_by_recv;
  made_of_nobody = made_of_nobody;
  made_task_as_list = made_task_as_list;
  made_task_as_test = made_task_as_test;
}
