-- What one turn of the code does to the rest of the search. Assumes nothing.
use Rattle.std.proofs.Common.{◌≡◌, ℕ, zero, suc, ◌+◌, ◌-◌, ◌^◌, ◌<◌, ◌≤◌, List, [], ◌∷◌, ◌++◌, length, get_or, take, set, sym, refl, ap, ◌∙◌, subst, arith}
use Rattle.std.proofs.lemmas.List.{take_more_set, length-take-le, get_or-take}
use Rattle.planning.specs.Plans.{Given}
use Rattle.planning.specs.Pruners.{Prune}
use Rattle.search_rules.specs.Search.{State, visit, try_each}
use Rattle.search.specs.declared.saving.Saved.{Saved}
use Rattle.search.specs.declared.deciding.Decision.{Decision}
use Rattle.search.specs.Frames.{after_slot, goes, untried, resume}
use Rattle.search.specs.Saves.{undone, kept}
use Rattle.search.proofs.Undone.{kept_low, undone_low}
use Rattle.search.proofs.Visits.{frames_plan}

take_in_set : (n : ℕ) (xs : List ℕ) (k v : ℕ) → take n (set xs k v) ≡ set (take n xs) k v
take_in_set zero xs k v = refl
take_in_set (suc n) [] k v = refl
take_in_set (suc n) (x ∷ xs) zero v = refl
take_in_set (suc n) (x ∷ xs) (suc k) v = ap (λ ys. x ∷ ys) (take_in_set n xs k v)

module _ (g : Given) (f : Prune) (limit n : ℕ) (plan : List ℕ) where
  pub turn_leave : (d : Decision) (os : List Decision) (sv : List Saved) (ds : List ℕ) (t : State) (k : ℕ)
      → length os ≡ k → k < n → untried (take k plan) (get_or ds k 0) d.next ≡ []
      → goes g f limit n plan (d ∷ os) sv ds t ≡ goes g f limit n plan os (kept d.mark sv) (undone d.mark sv ds) t
  turn_leave d os sv ds t k q under e =
      let e' : untried (take (length os) plan) (get_or (take n ds) (length os) 0) d.next ≡ [] = ap (λ j. untried (take j plan) (get_or (take n ds) j 0) d.next) q ∙ ap (λ j. untried (take k plan) j d.next) (get_or-take n ds k 0 under) ∙ e in
      ap (λ us. goes g f limit n plan os (kept d.mark sv) (undone d.mark sv ds) (try_each (λ s. visit g f limit (n - suc (length os)) (take (length os) plan ++ (s ∷ [])) (set (take n ds) (length (take (length os) plan)) (2 ^ s))) us t)) e'

  pub turn_go : (d : Decision) (os : List Decision) (sv : List Saved) (ds : List ℕ) (t : State) (k s : ℕ)
      → length os ≡ k → k < n → k < length plan → untried (take k plan) (get_or ds k 0) d.next ≡ s ∷ untried (take k plan) (get_or ds k 0) (s + 1)
      → goes g f limit n plan (d ∷ os) sv ds t
      ≡ goes g f limit n (set plan k s) (after_slot d s ∷ os) sv ds (visit g f limit (n - (k + 1)) (take (k + 1) (set plan k s)) (take n (set ds k (2 ^ s))) t)
  turn_go d os sv ds t k s q under short e =
      let e' : untried (take (length os) plan) (get_or (take n ds) (length os) 0) d.next ≡ s ∷ untried (take (length os) plan) (get_or (take n ds) (length os) 0) (s + 1) =
      subst (λ j. untried (take j plan) (get_or (take n ds) j 0) d.next ≡ s ∷ untried (take j plan) (get_or (take n ds) j 0) (s + 1)) (sym q)
      (subst (λ w. untried (take k plan) w d.next ≡ s ∷ untried (take k plan) w (s + 1)) (sym (get_or-take n ds k 0 under)) e) in
      let len : length (take (length os) plan) ≡ k = length-take-le (length os) plan (omega arith) ∙ q in
      let left : n - suc (length os) ≡ n - (k + 1) = omega arith in
      let part : take (length os) plan ++ (s ∷ []) ≡ take (k + 1) (set plan k s) = ap (λ j. take j plan ++ (s ∷ [])) q ∙ sym (take_more_set plan k s short) in
      ap (λ us. goes g f limit n plan os (kept d.mark sv) (undone d.mark sv ds) (try_each (λ s. visit g f limit (n - suc (length os)) (take (length os) plan ++ (s ∷ [])) (set (take n ds) (length (take (length os) plan)) (2 ^ s))) us t)) e'
      ∙ ap (goes g f limit n plan (after_slot d s ∷ os) sv ds)
      (ap (λ j. visit g f limit (n - suc (length os)) (take (length os) plan ++ (s ∷ [])) (set (take n ds) j (2 ^ s)) t) len
      ∙ ap (λ j. visit g f limit j (take (length os) plan ++ (s ∷ [])) (set (take n ds) k (2 ^ s)) t) left
      ∙ ap (λ p. visit g f limit (n - (k + 1)) p (set (take n ds) k (2 ^ s)) t) part
      ∙ ap (λ x. visit g f limit (n - (k + 1)) (take (k + 1) (set plan k s)) x t) (sym (take_in_set n ds k (2 ^ s))))
      ∙ ap (λ fs. resume g f limit fs (visit g f limit (n - (k + 1)) (take (k + 1) (set plan k s)) (take n (set ds k (2 ^ s))) t))
      (sym (frames_plan n plan k s (after_slot d s ∷ os) sv ds (omega arith)))

  pub turn_enters : (d : Decision) (os os0 os1 : List Decision) (sv su : List Saved) (ds es : List ℕ) (t : State) (k s m h w : ℕ)
      → os0 ≡ d ∷ os → os1 ≡ after_slot d s ∷ os
      → length os ≡ k → k < n → k < length plan → untried (take k plan) (get_or ds k 0) d.next ≡ s ∷ untried (take k plan) (get_or ds k 0) (s + 1)
      → es ≡ set ds k w → w ≡ 2 ^ s → h ≡ k + 1 → length sv ≤ m → undone m su es ≡ undone m sv ds → kept m su ≡ kept m sv
      → goes g f limit n (set plan k s) os1 (kept m su) (undone m su es) (visit g f limit (n - h) (take h (set plan k s)) (take n es) t)
      ≡ goes g f limit n plan os0 sv ds t
  turn_enters d os os0 os1 sv su ds es t k s m h w a b q under short e y z hk low u v =
      ap (λ x. goes g f limit n (set plan k s) x (kept m su) (undone m su es) (visit g f limit (n - h) (take h (set plan k s)) (take n es) t)) b
      ∙ ap (λ x. goes g f limit n (set plan k s) (after_slot d s ∷ os) x (undone m su es) (visit g f limit (n - h) (take h (set plan k s)) (take n es) t)) (v ∙ kept_low m sv low)
      ∙ ap (λ x. goes g f limit n (set plan k s) (after_slot d s ∷ os) sv x (visit g f limit (n - h) (take h (set plan k s)) (take n es) t)) (u ∙ undone_low m sv ds low)
      ∙ ap (goes g f limit n (set plan k s) (after_slot d s ∷ os) sv ds)
      (ap (λ j. visit g f limit (n - j) (take j (set plan k s)) (take n es) t) hk
      ∙ ap (λ j. visit g f limit (n - (k + 1)) (take (k + 1) (set plan k s)) (take n j) t) (y ∙ ap (set ds k) z))
      ∙ sym (turn_go d os sv ds t k s q under short e)
      ∙ ap (λ x. goes g f limit n plan x sv ds t) (sym a)
