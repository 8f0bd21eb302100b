-- The theorems on the search. Assumes nothing.
use Rattle.std.proofs.Common.{◌≡◌, ℕ, ◌+◌, ◌≤◌, false, List, [], ◌∷◌, ◌++◌, length, take, ℤ, ◌≤ℤ◌, Some, None, Option, sym, refl, ap, ◌∙◌, subst, inl, inr, zero-add, arith, length-append, take_at}
use lib.Signed.{clash_ℤ}
use Rattle.std.specs.List.{AllByRecursion}
use Rattle.planning.specs.Lists.{In, Ordered}
use Rattle.planning.specs.Plans.{Before, Drawn, Given, Listed, parts, plans, total}
use Rattle.planning.specs.Verdicts.{some_none}
use Rattle.planning.proofs.Listing.{in_left, plans_listed}
use Rattle.search_rules.specs.Search.{State, begun, searched}
use Rattle.search_rules.specs.Right.{BetteringsCounted, Cheapest, Counted, Right, SearchRight, last_of, minima}
use Rattle.search_rules.proofs.Minima.{Kept, minima_keep}
use Rattle.search_rules.proofs.Tallies.{Tally, betters_are, meet_all, minima_first, tally, top_is}
use Rattle.search_rules.proofs.Visits.{Visited, searched_visited}

same_some : (o : Option (List ℕ)) (p q : List ℕ) → o ≡ Some p → o ≡ Some q → p ≡ q
same_some o p q e k = cc

from_zero : {m n : ℕ} → m ≤ n → 0 + m ≤ n
from_zero h = omega arith

-- ---- the first part of a list

not_longer : (xs ys : List (List ℕ)) → length xs ≤ length (xs ++ ys)
not_longer xs ys = omega (arith, length-append xs ys)

all_left : (P : List ℕ → Type 0) (xs ys : List (List ℕ)) → AllByRecursion P (xs ++ ys) → AllByRecursion P xs
all_left P [] ys h = tt
all_left P (x ∷ xs) ys h = (h.0, all_left P xs ys h.1)

ordered_left : (R : List ℕ → List ℕ → Type 0) (xs ys : List (List ℕ)) → Ordered R (xs ++ ys) → Ordered R xs
ordered_left R [] ys h = tt
ordered_left R (x ∷ xs) ys h = (all_left (R x) xs ys h.0, ordered_left R xs ys h.1)

module _ (g : Given) (limit : ℕ) (c : ℤ) (us : List ℕ) (t : State) (v : Visited g limit (parts us []) (plans us []) (begun c) t) where
  -- the plans ps were met
  abbrev Met : List (List ℕ) → Type 0
  Met ps = tally t ≡ meet_all g ps (tally (begun c))

  number : (ps : List (List ℕ)) → Met ps → t.betterings ≡ length (minima g c ps)
  number ps e = ap (λ (k : Tally). k.betters) e ∙ betters_are g ps (tally (begun c)) ∙ zero-add (length (minima g c ps))

  best : (ps : List (List ℕ)) → Met ps → t.best ≡ last_of None (minima g c ps)
  best ps e = ap (λ (k : Tally). k.top) e ∙ top_is g ps (tally (begun c))

  pub counted : Counted g c us t
  counted =
      let (ps, rs, e, m) = v.met_first in
      let (ms, i) = minima_first g ps rs c in
      let is : minima g c (plans us []) ≡ minima g c ps ++ ms = ap (minima g c) (sym e) ∙ i in
      record {
        some_met = rw (is, number ps m) (not_longer (minima g c ps) ms);
        best_is = best ps m ∙ ap (last_of None) (sym (take_at (minima g c ps) ms t.betterings (sym (number ps m))) ∙ ap (take t.betterings) (sym is));
        all_met = λ s. number (plans us []) (v.met_all s);
      }

  listed : Listed us
  listed = plans_listed us

  kept : (ps : List (List ℕ)) → Ordered Before ps → Met ps → Kept g c ps None t.best
  kept ps o m = subst (Kept g c ps None) (sym (best ps m)) (minima_keep g ps o c None)

  within_by : (ps rs : List (List ℕ)) → ps ++ rs ≡ plans us [] → (p : List ℕ) → t.best ≡ Some p → Kept g c ps None t.best → Drawn us p × (total g p ≤ℤ c)
  within_by ps rs e p b (inl k) = absurd (some_none t.best p b k.best_is)
  within_by ps rs e p b (inr k) = subst (λ (x : List ℕ). Drawn us x × (total g x ≤ℤ c)) (same_some t.best k.plan p k.best_is b)
      (listed.only k.plan (subst (In k.plan) e (in_left k.plan ps rs k.listed)), k.fits)

  within : (p : List ℕ) → t.best ≡ Some p → Drawn us p × (total g p ≤ℤ c)
  within p b =
      let (ps, rs, e, m) = v.met_first in
      within_by ps rs e p b (kept ps (ordered_left Before ps rs (subst (Ordered Before) (sym e) listed.order)) m)

  kept_all : t.stopped ≡ false → Kept g c (plans us []) None t.best
  kept_all s = kept (plans us []) listed.order (v.met_all s)

  cheapest_by : (p : List ℕ) → t.best ≡ Some p → Kept g c (plans us []) None t.best → Cheapest g us p
  cheapest_by p b (inl k) = absurd (some_none t.best p b k.best_is)
  cheapest_by p b (inr k) = subst (Cheapest g us) (same_some t.best k.plan p k.best_is b) (λ q d. k.ahead q (listed.all q d))

  none_by : t.best ≡ None → Kept g c (plans us []) None t.best → (p : List ℕ) → Drawn us p → total g p ≤ℤ c → ⊥
  none_by b (inl k) p d l = clash_ℤ (k.over p (listed.all p d)) l
  none_by b (inr k) p d l = some_none t.best k.plan k.best_is b

  pub right : Right g limit c us t
  right = record {
    within = within;
    cheapest = λ s p b. cheapest_by p b (kept_all s);
    none = λ s b. none_by b (kept_all s);
    ends = λ h. (v.goes refl (from_zero h)).0;
  }

pub search_right : SearchRight
search_right g us ok f law limit c = right g limit c us (searched g f limit c us) (searched_visited g limit f us (law g us ok) c)

pub betterings_counted : BetteringsCounted
betterings_counted g us ok f law limit c = counted g limit c us (searched g f limit c us) (searched_visited g limit f us (law g us ok) c)
