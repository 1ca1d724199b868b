-- What each call does to the vouchers that are known: it adds one to them or takes one away, or leaves them.
use Rattle.std.proofs.Common.{◌≡◌, ◌≤◌, ◌+◌, ◌-◌, ℕ, List, [], ◌∷◌, ◌++◌, length, map, drop, slice_get, nat_lt, ◌==◌, ◌||◌, Option, Some, None, Bool, true, false, cond, refl, sym, ap, ◌∙◌}
use Rattle.std.specs.List.{flat_map}
use Rattle.std.specs.Option.{option_to_list}
use Rattle.vch_base.specs.Tasks.{set_task}
use Rattle.vch_table.proofs.CallerLemmas.{by_cases, decides}
use Rattle.vch_table.specs.Index.{indices_eq}
use Rattle.vch_vouchers.specs.declared.answers.Message.{Message}
use Rattle.vch_vouchers.specs.Desks.{Desk, Named, Voucher, desk, given, given_to, is_among, name_with, one_less, one_more, queued, voucher_of, vouchers_at, without_name}
use Rattle.vch_vouchers.proofs.Changes.{Gains, Same, among_append, gains, loses, or_assoc, or_end, or_swap, same}

abbrev named : List Named → List Voucher
named ns = map (λ (n : Named). n.voucher) ns

abbrev waiting : List Message → List Voucher
waiting qs = flat_map (λ (q : Message). option_to_list q.voucher) qs

or_twice : (a b : Bool) → a || b ≡ a || (a || b)
or_twice true b = refl
or_twice false b = refl

or_turn : (a b : Bool) → a || (b || false) ≡ b || a
or_turn true true = refl
or_turn true false = refl
or_turn false true = refl
or_turn false false = refl

module _ (v w : Voucher) where
  -- names and queue of a desk, where one of them has one voucher more

  by_names : (ms ns : List Named) (qs : List Message) → is_among w (named ms) ≡ indices_eq v w || is_among w (named ns) → is_among w (named ms ++ waiting qs) ≡ indices_eq v w || is_among w (named ns ++ waiting qs)
  by_names ms ns qs e =
      among_append w (named ms) (waiting qs) ∙ ap (λ b. b || is_among w (waiting qs)) e
      ∙ or_assoc (indices_eq v w) (is_among w (named ns)) (is_among w (waiting qs))
      ∙ ap (λ b. indices_eq v w || b) (sym (among_append w (named ns) (waiting qs)))

  by_queue : (ns : List Named) (ps qs : List Message) → is_among w (waiting ps) ≡ indices_eq v w || is_among w (waiting qs) → is_among w (named ns ++ waiting ps) ≡ indices_eq v w || is_among w (named ns ++ waiting qs)
  by_queue ns ps qs e =
      among_append w (named ns) (waiting ps) ∙ ap (λ b. is_among w (named ns) || b) e
      ∙ or_swap (is_among w (named ns)) (indices_eq v w) (is_among w (waiting qs))
      ∙ ap (λ b. indices_eq v w || b) (sym (among_append w (named ns) (waiting qs)))

  -- the first of a list is the voucher
  twice : (x : Voucher) (xs : List Voucher) → x ≡ v → is_among w (x ∷ xs) ≡ indices_eq v w || is_among w (x ∷ xs)
  twice x xs e = ap (λ k. indices_eq k w || is_among w xs) e ∙ or_twice (indices_eq v w) (is_among w xs) ∙ ap (λ k. indices_eq v w || (indices_eq k w || is_among w xs)) (sym e)

  further : (x : Voucher) (xs ys : List Voucher) → is_among w xs ≡ indices_eq v w || is_among w ys → is_among w (x ∷ xs) ≡ indices_eq v w || is_among w (x ∷ ys)
  further x xs ys e = ap (λ b. indices_eq x w || b) e ∙ or_swap (indices_eq x w) (indices_eq v w) (is_among w ys)

  found : (ns : List Named) (k : ℕ) → name_with ns v ≡ Some k → is_among w (named ns) ≡ indices_eq v w || is_among w (named ns)
  found [] k e = absurd (cc)
  found (n ∷ ns) k e = by (indices_eq n.voucher v) refl e (found ns k)
    where
      by : (b : Bool) → indices_eq n.voucher v ≡ b → cond b (Some n.name) (name_with ns v) ≡ Some k → (name_with ns v ≡ Some k → is_among w (named ns) ≡ indices_eq v w || is_among w (named ns))
          → is_among w (named (n ∷ ns)) ≡ indices_eq v w || is_among w (named (n ∷ ns))
      by true q f next = twice n.voucher (named ns) ((decides n.voucher v).0 q)
      by false q f next = further n.voucher (named ns) (named ns) (next f)

  less : (ns : List Named) (k : ℕ) → voucher_of ns k ≡ Some v → is_among w (named ns) ≡ indices_eq v w || is_among w (named (one_less ns k))
  less [] k e = absurd (cc)
  less (n ∷ ns) k e = by (n.name == k) e (less ns k)
    where
      kept : (b : Bool) → n.voucher ≡ v → is_among w (named (n ∷ ns)) ≡ indices_eq v w || is_among w (named (cond b (record n { refs = n.refs - 1 } ∷ ns) ns))
      kept true z = twice n.voucher (named ns) z
      kept false z = ap (λ k. indices_eq k w || is_among w (named ns)) z

      by : (b : Bool) → cond b (Some n.voucher) (voucher_of ns k) ≡ Some v → (voucher_of ns k ≡ Some v → is_among w (named ns) ≡ indices_eq v w || is_among w (named (one_less ns k)))
          → is_among w (named (n ∷ ns)) ≡ indices_eq v w || is_among w (named (cond b (cond (nat_lt 1 n.refs) (record n { refs = n.refs - 1 } ∷ ns) ns) (n ∷ one_less ns k)))
      by true f next = kept (nat_lt 1 n.refs) (cc)
      by false f next = further n.voucher (named ns) (named (one_less ns k)) (next f)

  without : (ns : List Named) (k : ℕ) → voucher_of ns k ≡ Some v → is_among w (named ns) ≡ indices_eq v w || is_among w (named (without_name ns k))
  without [] k e = absurd (cc)
  without (n ∷ ns) k e = by (n.name == k) e (without ns k)
    where
      by : (b : Bool) → cond b (Some n.voucher) (voucher_of ns k) ≡ Some v → (voucher_of ns k ≡ Some v → is_among w (named ns) ≡ indices_eq v w || is_among w (named (without_name ns k)))
          → is_among w (named (n ∷ ns)) ≡ indices_eq v w || is_among w (named (cond b ns (n ∷ without_name ns k)))
      by true f next = let z : n.voucher ≡ v = cc in ap (λ k. indices_eq k w || is_among w (named ns)) z
      by false f next = further n.voucher (named ns) (named (without_name ns k)) (next f)

more_named : (ns : List Named) (k : ℕ) → named (one_more ns k) ≡ named ns
more_named [] k = refl
more_named (n ∷ ns) k = by (n.name == k) (more_named ns k)
  where
    by : (b : Bool) → named (one_more ns k) ≡ named ns → named (cond b (record n { refs = n.refs + 1 } ∷ ns) (n ∷ one_more ns k)) ≡ named (n ∷ ns)
    by true e = refl
    by false e = ap (λ r. n.voucher ∷ r) e

queue_end : (w : Voucher) (qs : List Message) (q : Message) → is_among w (waiting (qs ++ q ∷ [])) ≡ is_among w (waiting qs) || is_among w (option_to_list q.voucher)
queue_end w [] q = among_append w (option_to_list q.voucher) [] ∙ or_end (is_among w (option_to_list q.voucher))
queue_end w (x ∷ qs) q =
    among_append w (option_to_list x.voucher) (waiting (qs ++ q ∷ [])) ∙ ap (λ b. is_among w (option_to_list x.voucher) || b) (queue_end w qs q)
    ∙ sym (or_assoc (is_among w (option_to_list x.voucher)) (is_among w (waiting qs)) (is_among w (option_to_list q.voucher)))
    ∙ ap (λ b. b || is_among w (option_to_list q.voucher)) (sym (among_append w (option_to_list x.voucher) (waiting qs)))

none_less : (ns : List Named) (k : ℕ) → voucher_of ns k ≡ None → one_less ns k ≡ ns
none_less [] k e = refl
none_less (n ∷ ns) k e = by_cases (n.name == k) (λ b. cond b (Some n.voucher) (voucher_of ns k) ≡ None → cond b (cond (nat_lt 1 n.refs) (record n { refs = n.refs - 1 } ∷ ns) ns) (n ∷ one_less ns k) ≡ n ∷ ns)
    (λ _ q. absurd (cc)) (λ _ q. ap (λ r. n ∷ r) (none_less ns k q)) e

none_without : (ns : List Named) (k : ℕ) → voucher_of ns k ≡ None → without_name ns k ≡ ns
none_without [] k e = refl
none_without (n ∷ ns) k e = by_cases (n.name == k) (λ b. cond b (Some n.voucher) (voucher_of ns k) ≡ None → cond b ns (n ∷ without_name ns k) ≡ n ∷ ns)
    (λ _ q. absurd (cc)) (λ _ q. ap (λ r. n ∷ r) (none_without ns k q)) e

module _ (ds : List Desk) (t : ℕ) (n : (1 ≤ t) × (t ≤ length ds)) where
  abbrev own : Desk
  own = desk ds t

  -- a voucher is given a name, or is sent

  pub given_gains : (v : Voucher) → Gains v ds (set_task ds t (given own v))
  given_gains v = gains ds t n (given own v) v (λ w. by w (name_with own.names v) refl)
    where
      by : (w : Voucher) (o : Option ℕ) → name_with own.names v ≡ o → is_among w (vouchers_at (given_to own v o)) ≡ indices_eq v w || is_among w (vouchers_at own)
      by w None e = by_names v w (own.names ++ record { name = own.next; voucher = v; refs = 1 } ∷ []) own.names own.queue (pushed own.names)
        where
          pushed : (ns : List Named) → is_among w (named (ns ++ record { name = own.next; voucher = v; refs = 1 } ∷ [])) ≡ indices_eq v w || is_among w (named ns)
          pushed [] = refl
          pushed (x ∷ ns) = further v w x.voucher (named (ns ++ record { name = own.next; voucher = v; refs = 1 } ∷ [])) (named ns) (pushed ns)
      by w (Some k) e = by_names v w (one_more own.names k) own.names own.queue (ap (is_among w) (more_named own.names k) ∙ found v w own.names k e)

  pub queued_gains : (v : Voucher) (sender id : ℕ) → Gains v ds (set_task ds t (queued own (record { sender = sender; id = id; voucher = Some v })))
  queued_gains v sender id = let q : Message = record { sender = sender; id = id; voucher = Some v } in gains ds t n (queued own q) v (λ w. by_queue v w own.names (own.queue ++ q ∷ []) own.queue (queue_end w own.queue q ∙ or_turn (is_among w (waiting own.queue)) (indices_eq v w)))

  pub queued_same : (sender id : ℕ) → Same ds (set_task ds t (queued own (record { sender = sender; id = id; voucher = None })))
  queued_same sender id = let q : Message = record { sender = sender; id = id; voucher = None } in same ds t n (queued own q) (λ w. among_append w (named own.names) (waiting (own.queue ++ q ∷ [])) ∙ ap (λ b. is_among w (named own.names) || b) (queue_end w own.queue q ∙ or_end (is_among w (waiting own.queue))) ∙ sym (among_append w (named own.names) (waiting own.queue)))

  -- a name loses a user reference, or goes; the desks before have the voucher of the name beside those after

  pub dropped_loses : (v : Voucher) (k : ℕ) → voucher_of own.names k ≡ Some v → Gains v (set_task ds t (record own { names = one_less own.names k })) ds
  dropped_loses v k e = loses ds t n (record own { names = one_less own.names k }) v (λ w. by_names v w own.names (one_less own.names k) own.queue (less v w own.names k e))

  pub removed_loses : (v : Voucher) (k : ℕ) → voucher_of own.names k ≡ Some v → Gains v (set_task ds t (record own { names = without_name own.names k })) ds
  removed_loses v k e = loses ds t n (record own { names = without_name own.names k }) v (λ w. by_names v w own.names (without_name own.names k) own.queue (without v w own.names k e))

  pub dropped_same : (k : ℕ) → voucher_of own.names k ≡ None → Same ds (set_task ds t (record own { names = one_less own.names k }))
  dropped_same k e = same ds t n (record own { names = one_less own.names k }) (λ w. ap (λ ns. is_among w (named ns ++ waiting own.queue)) (none_less own.names k e))

  pub removed_same : (k : ℕ) → voucher_of own.names k ≡ None → Same ds (set_task ds t (record own { names = without_name own.names k }))
  removed_same k e = same ds t n (record own { names = without_name own.names k }) (λ w. ap (λ ns. is_among w (named ns ++ waiting own.queue)) (none_without own.names k e))

  -- a message is taken

  pub taken_loses : (v : Voucher) (q : Message) → slice_get own.queue 0 ≡ Some q → q.voucher ≡ Some v → Gains v (set_task ds t (record own { queue = drop 1 own.queue })) ds
  taken_loses v q e f = loses ds t n (record own { queue = drop 1 own.queue }) v (λ w. by_queue v w own.names own.queue (drop 1 own.queue) (by w own.queue e))
    where
      by : (w : Voucher) (qs : List Message) → slice_get qs 0 ≡ Some q → is_among w (waiting qs) ≡ indices_eq v w || is_among w (waiting (drop 1 qs))
      by w [] e = absurd (cc)
      by w (x ∷ qs) e = let z : x ≡ q = cc in ap (λ o. is_among w (option_to_list o ++ waiting qs)) (ap (λ (m : Message). m.voucher) z ∙ f)

  pub taken_same : (q : Message) → slice_get own.queue 0 ≡ Some q → q.voucher ≡ None → Same ds (set_task ds t (record own { queue = drop 1 own.queue }))
  taken_same q e f = same ds t n (record own { queue = drop 1 own.queue }) (λ w. ap (λ vs. is_among w (named own.names ++ vs)) (by own.queue e))
    where
      by : (qs : List Message) → slice_get qs 0 ≡ Some q → waiting (drop 1 qs) ≡ waiting qs
      by [] e = absurd (cc)
      by (x ∷ qs) e = let z : x ≡ q = cc in ap (λ o. option_to_list o ++ waiting qs) (sym (ap (λ (m : Message). m.voucher) z ∙ f))
