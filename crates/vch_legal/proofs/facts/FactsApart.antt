-- What fits are the facts and what is kept beside them.
use Rattle.std.proofs.Common.{◌≡◌, Bool, true, false, List, [], ◌∷◌, refl, arith, sym, ap, ◌∙◌, Some, None, Option}
use Rattle.std.specs.Prelude.{is_some}
use Rattle.vch_model.specs.declared.lists.Scenario.{Scenario}
use Rattle.vch_machine.specs.State.{Claim, Frame, Machine, tasked, default_place}
use Rattle.vch_machine.specs.Leaving.{is_fixed_value}
use Rattle.vch_legal.specs.Facts.{Spot, spot, spot_fits, FrameFits, OptionFits, Fits}
use Rattle.vch_legal.specs.Apart.{OptionAlone, Facts, OptionBeside, Beside}

-- a fixed spot has no claims
unclaimed : (live held expected : Bool) (claims : List Claim)
    → spot_fits (record { live = live; fixed = true; held = held; expected = expected; claims = claims }) ≡ true → claims ≡ []
unclaimed live held expected [] h = refl
unclaimed live held expected (c ∷ []) h = absurd (none h)
  where
    none : spot_fits (record { live = live; fixed = true; held = held; expected = expected; claims = c ∷ [] }) ≡ true → ⊥
    none h = grind arith
unclaimed live held expected (c ∷ d ∷ cs) h = absurd (none h)
  where
    none : spot_fits (record { live = live; fixed = true; held = held; expected = expected; claims = c ∷ d ∷ cs }) ≡ true → ⊥
    none h = grind arith

fixed_unclaimed : (s : Spot) → s.fixed ≡ true → spot_fits s ≡ true → s.claims ≡ []
fixed_unclaimed s e h =
    unclaimed s.live s.held s.expected s.claims
    (ap (λ b. spot_fits (record { live = s.live; fixed = b; held = s.held; expected = s.expected; claims = s.claims })) (sym e) ∙ h)

not_answered : (f : Frame) → FrameFits f → is_some f.receipt ≡ true → f.answered ≡ false
not_answered f h e = by_answered f.answered refl
  where
    by_answered : (b : Bool) → f.answered ≡ b → f.answered ≡ false
    by_answered true g = let k : false ≡ true = sym (ap is_some (h.answered g)) ∙ h.forming e in cc
    by_answered false g = g

alone : (o : Option Frame) → OptionFits o → OptionAlone o
alone None h = tt
alone (Some f) h = record { claim = h.claim; unanswered = not_answered f h }

beside : (o : Option Frame) → OptionFits o → OptionBeside o
beside None h = tt
beside (Some f) h = record { lets = h.lets; forming = h.forming; answered = h.answered; few = h.few }

both : (o : Option Frame) → OptionAlone o → OptionBeside o → OptionFits o
both None a b = tt
both (Some f) a b = record { claim = a.claim; lets = b.lets; forming = b.forming; answered = b.answered; few = b.few }

pub facts_of : (sc : Scenario) (m : Machine) → Fits sc m → Facts m
facts_of sc m h = record {
  spots = h.spots;
  frames = λ t. alone (tasked m t).frame (h.frames t);
  each_once = h.each_once;
  different = h.different;
  default_live = h.default_live;
  default_kept = fixed_unclaimed (spot m default_place) (ap is_fixed_value h.default_live) (h.spots default_place);
}

pub beside_of : (sc : Scenario) (m : Machine) → Fits sc m → Beside sc m
beside_of sc m h = record {
  frames = λ t. beside (tasked m t).frame (h.frames t);
  sends = h.sends;
  exits = h.exits;
  tasks = h.tasks;
  values = h.values;
  numbers = h.numbers;
  counted = h.counted;
}

pub fits_both : (sc : Scenario) (m : Machine) → Facts m → Beside sc m → Fits sc m
fits_both sc m a b = record {
  spots = a.spots;
  frames = λ t. both (tasked m t).frame (a.frames t) (b.frames t);
  sends = b.sends;
  exits = b.exits;
  tasks = b.tasks;
  each_once = a.each_once;
  different = a.different;
  default_live = a.default_live;
  values = b.values;
  numbers = b.numbers;
  counted = b.counted;
}
