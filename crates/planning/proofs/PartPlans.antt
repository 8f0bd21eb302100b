-- The list of all part-plans: those of k slots are the plans drawn from the first k sets. Assumes nothing.
use Rattle.std.proofs.Common.{◌≡◌, ℕ, zero, suc, List, [], ◌∷◌, ◌++◌, length, take, sym, refl, ap, ◌∙◌, inl, inr, append_assoc, append-nil, arith, length-append}
use Rattle.std.proofs.ByRecursion.{All-weaker}
use Rattle.std.specs.List.{AllByRecursion}
use Rattle.planning.specs.Lists.{In, Ordered}
use Rattle.planning.specs.Plans.{Begun, Drawn, PartPlansAreListed, add_over, choices, gather, part_plans, parts, plans}
use Rattle.planning.proofs.PlanOrder.{other}
use Rattle.planning.proofs.Below.{Starts, choices_rise, starts_order}
use Rattle.planning.proofs.Listing.{gather_all, gather_in, gather_ordered, in_gather, plans_listed}

-- ---- their number

length_gather : (f : ℕ → ℕ) (L : ℕ → List (List ℕ)) → ((s : ℕ) → f s ≡ length (L s)) → (cs : List ℕ) → add_over f cs ≡ length (gather L cs)
length_gather f L h [] = refl
length_gather f L h (c ∷ cs) = rw (length-append (L c) (gather L cs), h c, length_gather f L h cs)

number : (ds p : List ℕ) → parts ds p ≡ length (part_plans ds p)
number [] p = refl
number (d ∷ ds) p = ap suc (length_gather (λ s. parts ds (p ++ (s ∷ []))) (λ s. part_plans ds (p ++ (s ∷ []))) (λ s. number ds (p ++ (s ∷ []))) (choices p d))

-- ---- none is missing, and there are no others

first_drawn : (ds q : List ℕ) → Begun ds q → Drawn (take (length q) ds) q
first_drawn ds [] b = tt
first_drawn [] (s ∷ q) b = absurd b
first_drawn (d ∷ ds) (s ∷ q) b = (b.0, b.1, b.2, first_drawn ds q b.3)

drawn_first : (k : ℕ) (ds q : List ℕ) → Drawn (take k ds) q → Begun ds q
drawn_first k ds [] b = tt
drawn_first zero ds (s ∷ q) b = absurd b
drawn_first (suc k) [] (s ∷ q) b = absurd b
drawn_first (suc k) (d ∷ ds) (s ∷ q) b = (b.0, b.1, b.2, drawn_first k ds q b.3)

from_plans : (k : ℕ) (ds p q : List ℕ) → In q (plans (take k ds) p) → In q (part_plans ds p)
from_plans zero [] p q i = i
from_plans zero (d ∷ ds) p q (inl e) = inl e
from_plans zero (d ∷ ds) p q (inr i) = absurd i
from_plans (suc k) [] p q i = i
from_plans (suc k) (d ∷ ds) p q i =
    let (s, c, m) = in_gather (λ s. plans (take k ds) (p ++ (s ∷ []))) q (choices p d) i in
    inr (gather_in (λ s. part_plans ds (p ++ (s ∷ []))) q s (choices p d) c (from_plans k ds (p ++ (s ∷ [])) q m))

to_plans : (ds p q : List ℕ) → In q (part_plans ds p) → (k : ℕ) × In q (plans (take k ds) p)
to_plans [] p q i = (0, i)
to_plans (d ∷ ds) p q (inl e) = (0, inl e)
to_plans (d ∷ ds) p q (inr i) =
    let (s, c, m) = in_gather (λ s. part_plans ds (p ++ (s ∷ []))) q (choices p d) i in
    let (k, n) = to_plans ds (p ++ (s ∷ [])) q m in
    (suc k, gather_in (λ s. plans (take k ds) (p ++ (s ∷ []))) q s (choices p d) c n)

-- ---- each is listed once

abbrev Other : List ℕ → List ℕ → Type 0
Other p q = p ≡ q → ⊥

starts_on : (p : List ℕ) (s : ℕ) (q : List ℕ) → Starts (p ++ (s ∷ [])) q → Starts p q
starts_on p s q (r, e) = (s ∷ r, e ∙ append_assoc p (s ∷ []) r)

longer : (p : List ℕ) (s : ℕ) (q : List ℕ) → Starts (p ++ (s ∷ [])) q → Other p q
longer p s q (r, e) h = let l = simp length-append at (ap length (h ∙ e)) in omega arith

starts : (ds p : List ℕ) → AllByRecursion (Starts p) (part_plans ds p)
starts [] p = (([], sym (append-nil p)), tt)
starts (d ∷ ds) p = (
  ([], sym (append-nil p)),
  gather_all (λ s. part_plans ds (p ++ (s ∷ []))) (Starts p) (choices p d)
      (λ s _. All-weaker (Starts (p ++ (s ∷ []))) (Starts p) (starts_on p s) (part_plans ds (p ++ (s ∷ []))) (starts ds (p ++ (s ∷ [])))),
)

once : (ds p : List ℕ) → Ordered Other (part_plans ds p)
once [] p = (tt, tt)
once (d ∷ ds) p = (
  gather_all (λ s. part_plans ds (p ++ (s ∷ []))) (Other p) (choices p d)
      (λ s _. All-weaker (Starts (p ++ (s ∷ []))) (Other p) (longer p s) (part_plans ds (p ++ (s ∷ []))) (starts ds (p ++ (s ∷ [])))),
  gather_ordered (λ s. part_plans ds (p ++ (s ∷ []))) Other (λ s. Starts (p ++ (s ∷ []))) (λ s s' q q' l a b. other q q' (starts_order p s s' q q' l a b))
      (λ s. starts ds (p ++ (s ∷ []))) (λ s. once ds (p ++ (s ∷ []))) (choices p d) (choices_rise p d),
)

pub part_plans_are_listed : PartPlansAreListed
part_plans_are_listed us = record {
  only = λ q i. let (k, m) = to_plans us [] q i in drawn_first k us q ((plans_listed (take k us)).only q m);
  all = λ q b. from_plans (length q) us [] q ((plans_listed (take (length q) us)).all q (first_drawn us q b));
  once = once us [];
  number = number us [];
}
