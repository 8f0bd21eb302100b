-- A visit meets the plans that begin with its part-plan, one after the other, in no more steps than there are part-plans. Assumes nothing.
use Rattle.std.proofs.Common.{◌≡◌, ℕ, suc, ◌+◌, ◌^◌, ◌<◌, ◌≤◌, Bool, true, false, cond, eqb, List, [], ◌∷◌, ◌++◌, length, get_or, set, ℤ, ◌≤ℤ◌, Some, None, filter, Option, sym, refl, ap, ◌∙◌, subst, ⊎_elim, append_assoc, append-nil, arith}
use lib.Signed.{le_z, ≤ℤ_refl}
use Rattle.std.proofs.ByRecursion.{All-weaker}
use Rattle.std.proofs.lemmas.Bool.{both_ways, cases_Bool, cond_both, cond-true, eqb-true}
use Rattle.std.specs.List.{AllByRecursion}
use Rattle.slot_set.specs.Sets.{every_slot}
use Rattle.tariff.specs.Orders.{int_le_true, ≤ℤ_trans}
use Rattle.planning.specs.Plans.{Drawn, Given, add_over, choices, gather, parts, plans, total}
use Rattle.planning.specs.Pruners.{Parts, Points, Prune}
use Rattle.planning.proofs.Slots.{below_every}
use Rattle.planning.specs.Parts.{parts_refl, parts_trans}
use Rattle.planning.proofs.Below.{Below, below_drawn, choice_below, is_open, open_is, open_slot}
use Rattle.planning.proofs.Listing.{plans_below}
use Rattle.search_rules.specs.Search.{State, answered, begun, better, branches, completed, searched, step, stop, try_each, visit, visiting}
use Rattle.search_rules.proofs.Tallies.{Over, Tally, all_over, bettered, meet_all, meet_append, meet_lower, tally}
use Rattle.search_rules.proofs.WorkingSets.{Inside, by_choices, choice_head, choice_set, inside_head, inside_next, inside_part, parts_set}

module _ (g : Given) (limit : ℕ) where
  -- of the plans qs a first part was met
  abbrev pub FirstMet : List (List ℕ) → Tally → Tally → Type 0
  FirstMet qs k k' = (ps : List (List ℕ)) × (rs : List (List ℕ)) × (ps ++ rs ≡ qs) × (k' ≡ meet_all g ps k)

  -- a part of a search, from the state t to t', that had n part-plans to visit and the plans qs to meet
  pub record Visited (n : ℕ) (qs : List (List ℕ)) (t t' : State) : Type 0 where
    -- a stopped search stays as it is
    pub stays : t.stopped ≡ true → t' ≡ t
    -- stopped or not, it has met a first part of them
    pub met_first : FirstMet qs (tally t) (tally t')
    -- not stopped, it has met them all
    pub met_all : t'.stopped ≡ false → tally t' ≡ meet_all g qs (tally t)
    -- with enough steps left it is not stopped
    pub goes : t.stopped ≡ false → t.steps + n ≤ limit → (t'.stopped ≡ false) × (t'.steps ≤ t.steps + n)

  went_on : (n : ℕ) (qs : List (List ℕ)) (t t' : State) → Visited n qs t t' → t'.stopped ≡ false → t.stopped ≡ false
  went_on n qs t t' v e = ⊎_elim (λ s. absurd (both_ways t.stopped (sym (ap (λ (x : State). x.stopped) (v.stays s)) ∙ e) s)) (λ s. s) (cases_Bool t.stopped)

  lower : (n : ℕ) (qs : List (List ℕ)) (t t' : State) → Visited n qs t t' → t'.ceiling ≤ℤ t.ceiling
  lower n qs t t' v = let (ps, _, _, e) = v.met_first in subst (λ (k : Tally). k.ceil ≤ℤ t.ceiling) (sym e) (meet_lower g ps (tally t))

  idle : (n : ℕ) (qs : List (List ℕ)) (t : State) → Over g t.ceiling qs → Visited n qs t t
  idle n qs t h =
      let e : tally t ≡ meet_all g qs (tally t) = sym (all_over g qs (tally t) h) in
      record { stays = λ _. refl; met_first = (qs, [], append-nil qs, e); met_all = λ _. e; goes = λ s l. (s, omega arith) }

  one_then : (m n : ℕ) (ps qs : List (List ℕ)) (t u v : State) → Visited m ps t u → Visited n qs u v → Visited (m + n) (ps ++ qs) t v
  one_then m n ps qs t u v h k = record {
    stays = λ e. k.stays (ap (λ (x : State). x.stopped) (h.stays e) ∙ e) ∙ h.stays e;
    met_first = ⊎_elim first both (cases_Bool u.stopped);
    met_all = λ e. k.met_all e ∙ ap (meet_all g qs) (h.met_all (went_on n qs u v k e)) ∙ sym (meet_append g ps qs (tally t));
    goes = λ e l. let x = h.goes e (omega arith) in let y = k.goes x.0 (omega arith) in (y.0, omega arith);
  }
    where
      first : u.stopped ≡ true → FirstMet (ps ++ qs) (tally t) (tally v)
      first s = let (xs, ys, e, m) = h.met_first in (xs, ys ++ qs, sym (append_assoc xs ys qs) ∙ ap (λ (zs : List (List ℕ)). zs ++ qs) e, ap tally (k.stays s) ∙ m)

      both : u.stopped ≡ false → FirstMet (ps ++ qs) (tally t) (tally v)
      both s =
          let (xs, ys, e, m) = k.met_first in
          (ps ++ xs, ys, append_assoc ps xs ys ∙ ap (λ (zs : List (List ℕ)). ps ++ zs) e, m ∙ ap (meet_all g xs) (h.met_all s) ∙ sym (meet_append g ps xs (tally t)))

  -- stopped, with nothing met
  halted : (n : ℕ) (qs : List (List ℕ)) (t t' : State) → t'.stopped ≡ true → tally t' ≡ tally t → (t.stopped ≡ true → t' ≡ t) →
      (t.stopped ≡ false → t.steps + n ≤ limit → ⊥) → Visited n qs t t'
  halted n qs t t' s e same out = record { stays = same; met_first = ([], qs, refl, e); met_all = λ x. absurd (both_ways t'.stopped x s); goes = λ x l. absurd (out x l) }

  visiting_visited : (n : ℕ) (qs : List (List ℕ)) (k : State → State) (t : State) → (t.stopped ≡ false → Visited n qs (step t) (k (step t))) →
      Visited (suc n) qs t (visiting limit k t)
  visiting_visited n qs k t h =
      cond_both t.stopped t (cond (eqb t.steps limit) (stop t) (k (step t))) (Visited (suc n) qs t)
      (λ s. halted (suc n) qs t t s refl (λ _. refl) (λ s' _. both_ways t.stopped s' s))
      (λ s. cond_both (eqb t.steps limit) (stop t) (k (step t)) (Visited (suc n) qs t)
      (λ e. halted (suc n) qs t (stop t) refl refl (λ s'. absurd (both_ways t.stopped s s')) (λ _ l. full (eqb-true t.steps limit e) l))
      (λ _. record {
        stays = λ s'. absurd (both_ways t.stopped s s');
        met_first = (h s).met_first;
        met_all = (h s).met_all;
        goes = λ e l. let r = (h s).goes e (omega arith) in (r.0, more r.1);
      }))
    where
      full : t.steps ≡ limit → t.steps + suc n ≤ limit → ⊥
      full x l = omega arith

      more : {m : ℕ} → m ≤ suc t.steps + n → m ≤ t.steps + suc n
      more x = omega arith

  completed_visited : (p : List ℕ) (t : State) → t.stopped ≡ false → Visited 0 (p ∷ []) t (completed g p t)
  completed_visited p t s =
      cond_both (le_z (total g p) t.ceiling) (better g p t) t (Visited 0 (p ∷ []) t)
      (λ e. let m : tally (better g p t) ≡ meet_all g (p ∷ []) (tally t) = sym (cond-true (le_z (total g p) t.ceiling) (bettered g p (tally t)) (tally t) e) in
      record { stays = λ s'. absurd (both_ways t.stopped s s'); met_first = (p ∷ [], [], refl, m); met_all = λ _. m; goes = λ x _. (x, omega arith) })
      (λ e. idle 0 (p ∷ []) t ((λ l. both_ways (le_z (total g p) t.ceiling) e (int_le_true (total g p) t.ceiling l)), tt))

  -- ---- each slot in turn: of the slots that pass all, those that pass the test are tried

  module _ (F : ℕ → State → State) (n_of : ℕ → ℕ) (L : ℕ → List (List ℕ)) (c : ℤ) (test all : ℕ → Bool) (part : (s : ℕ) → test s ≡ true → all s ≡ true)
      (tried : (s : ℕ) → s < 64 → test s ≡ true → (t : State) → t.ceiling ≤ℤ c → Visited (n_of s) (L s) t (F s t))
      (struck : (s : ℕ) → s < 64 → test s ≡ false → all s ≡ true → Over g c (L s)) where
    each_visited : (ss : List ℕ) → AllByRecursion (λ s. s < 64) ss → (t : State) → t.ceiling ≤ℤ c →
        let cs : List ℕ = filter all ss in Visited (add_over n_of cs) (gather L cs) t (try_each F (filter test ss) t)
    each_visited [] w t l = idle 0 [] t tt
    each_visited (s ∷ ss) w t l = go (test s) (all s) refl refl (each_visited ss w.1)
      where
        xs : List ℕ
        xs = filter test ss

        ys : List ℕ
        ys = filter all ss

        go : (b b' : Bool) → test s ≡ b → all s ≡ b' → ((u : State) → u.ceiling ≤ℤ c → Visited (add_over n_of ys) (gather L ys) u (try_each F xs u)) →
            Visited (add_over n_of (cond b' (s ∷ ys) ys)) (gather L (cond b' (s ∷ ys) ys)) t (try_each F (cond b (s ∷ xs) xs) t)
        go true true x y ih =
            let h : Visited (n_of s) (L s) t (F s t) = tried s w.0 x t l in
            one_then (n_of s) (add_over n_of ys) (L s) (gather L ys) t (F s t) (try_each F xs (F s t)) h (ih (F s t) (≤ℤ_trans (lower (n_of s) (L s) t (F s t) h) l))
        go true false x y ih = absurd (both_ways (all s) y (part s x))
        go false true x y ih =
            one_then (n_of s) (add_over n_of ys) (L s) (gather L ys) t t (try_each F xs t)
            (idle (n_of s) (L s) t (All-weaker (λ q. total g q ≤ℤ c → ⊥) (λ q. total g q ≤ℤ t.ceiling → ⊥) (λ q h k. h (≤ℤ_trans k l)) (L s) (struck s w.0 x y)))
            (ih t l)
        go false false x y ih = ih t l

  -- ---- the search, with working sets that are parts of us

  module _ (f : Prune) (us : List ℕ) (law : (c : ℤ) (ds : List ℕ) → Parts ds us → Points f g c ds) where
    -- under the part-plan p: what is within the ceiling can be drawn from the sets
    abbrev pub Draws : List ℕ → List ℕ → List ℕ → ℤ → Type 0
    Draws p D ds c = (q : List ℕ) → Below p D q → total g q ≤ℤ c → Drawn ds q

    abbrev pub Visits : List ℕ → Type 0
    Visits D = (p ds : List ℕ) (t : State) → Parts ds us → Inside p ds D → Draws p D ds t.ceiling → Visited (parts D p) (plans D p) t (visit g f limit (length D) p ds t)

    module _ (d : ℕ) (D : List ℕ) (ih : Visits D) (p : List ℕ) where
      abbrev n_of : ℕ → ℕ
      n_of s = parts D (p ++ (s ∷ []))

      abbrev go_on : ℕ → List ℕ → State → State
      go_on s = visit g f limit (length D) (p ++ (s ∷ []))

      branched : (es : List ℕ) (t : State) → Parts es us → Inside p es (d ∷ D) → Draws p (d ∷ D) es t.ceiling →
          Visited (add_over n_of (choices p d)) (plans (d ∷ D) p) t (branches go_on p es t)
      branched es t n i h =
          by_choices p next d (λ ss cs. Visited (add_over n_of cs) (gather L cs) t (try_each F ss t))
          (each_visited F n_of L t.ceiling (open_slot p next) (open_slot p d) part tried struck every_slot below_every t (≤ℤ_refl t.ceiling))
        where
          next : ℕ
          next = get_or es (length p) 0

          F : ℕ → State → State
          F s = go_on s (set es (length p) (2 ^ s))

          L : ℕ → List (List ℕ)
          L s = plans D (p ++ (s ∷ []))

          part : (s : ℕ) → open_slot p next s ≡ true → open_slot p d s ≡ true
          part s e = let x = open_is p next s e in is_open p d s (inside_head p es d D i s x.0) x.1

          drawn : (s : ℕ) → s < 64 → open_slot p d s ≡ true → Draws (p ++ (s ∷ [])) D es t.ceiling
          drawn s k e q b l = let x = open_is p d s e in h q (choice_below p d D s q k (x.0, x.1, b)) l

          tried : (s : ℕ) → s < 64 → open_slot p next s ≡ true → (u : State) → u.ceiling ≤ℤ t.ceiling → Visited (n_of s) (L s) u (F s u)
          tried s k e u l =
              ih (p ++ (s ∷ [])) (set es (length p) (2 ^ s)) u
              (parts_trans (set es (length p) (2 ^ s)) es us (parts_set es (length p) s (open_is p next s e).0) n) (inside_next p es d D s (2 ^ s) i)
              (λ q b r. choice_set p es s D q b (drawn s k (part s e) q b (≤ℤ_trans r l)))

          struck : (s : ℕ) → s < 64 → open_slot p next s ≡ false → open_slot p d s ≡ true → Over g t.ceiling (L s)
          struck s k e a =
              All-weaker (Below (p ++ (s ∷ [])) D) (λ q. total g q ≤ℤ t.ceiling → ⊥)
              (λ q b l. both_ways (open_slot p next s) e (is_open p next s (choice_head p es s D q b (drawn s k a q b l)) (open_is p d s a).1))
              (L s) (plans_below D (p ++ (s ∷ [])))

      asked : (ds : List ℕ) (t : State) → Parts ds us → Inside p ds (d ∷ D) → Draws p (d ∷ D) ds t.ceiling → (o : Option (List ℕ)) → f g t.ceiling ds ≡ o →
          Visited (add_over n_of (choices p d)) (plans (d ∷ D) p) t (answered (branches go_on p) o t)
      asked ds t n i h None e =
          idle (add_over n_of (choices p d)) (plans (d ∷ D) p) t
          (All-weaker (Below p (d ∷ D)) (λ q. total g q ≤ℤ t.ceiling → ⊥) (λ q b l. (law t.ceiling ds n).dead e q (h q b l) l) (plans (d ∷ D) p) (plans_below (d ∷ D) p))
      asked ds t n i h (Some es) e =
          let k : Parts es ds = (law t.ceiling ds n).part es e in
          branched es t (parts_trans es ds us k n) (inside_part p es ds (d ∷ D) k i) (λ q b l. (law t.ceiling ds n).keeps es e q (h q b l) l)

    pub visit_visited : (D : List ℕ) → Visits D
    visit_visited [] p ds t n i h = visiting_visited 0 (p ∷ []) (completed g p) t (completed_visited p (step t))
    visit_visited (d ∷ D) p ds t n i h =
        visiting_visited (add_over (n_of d D (visit_visited D) p) (choices p d)) (plans (d ∷ D) p)
        (λ t. answered (branches (go_on d D (visit_visited D) p) p) (f g t.ceiling ds) t) t
        (λ _. asked d D (visit_visited D) p ds (step t) n i h (f g t.ceiling ds) refl)

    pub searched_visited : (c : ℤ) → Visited (parts us []) (plans us []) (begun c) (searched g f limit c us)
    searched_visited c = visit_visited us [] us (begun c) (parts_refl us) (parts_refl us) (λ q b _. below_drawn us q b)
