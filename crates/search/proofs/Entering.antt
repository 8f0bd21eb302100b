-- What one visit of the code does to the rest of the search. Assumes nothing.
use Rattle.std.proofs.Common.{◌≡◌, ℕ, suc, ◌+◌, ◌-◌, ◌<◌, ◌≤◌, Bool, true, false, cond, List, length, take, ℤ, pos, ◌-ℤ◌, sym, refl, ap, ◌∙◌, subst, arith}
use lib.Signed.{le_z}
use Rattle.stack.specs.Entries.{held}
use Rattle.planning.specs.Plans.{Given, total}
use Rattle.planning.specs.Pruners.{Prune}
use Rattle.search_rules.specs.Search.{State, visit, stop, step, better}
use Rattle.search.specs.declared.saving.Saved.{Saved}
use Rattle.search.specs.declared.deciding.Decision.{Decision}
use Rattle.tariff.specs.Charges.{Charge}
use Rattle.planning.specs.Working.{given}
use Rattle.search.specs.declared.exploration.Exploration.{Exploration}
use Rattle.search.specs.declared.tally.Tally.{Tally}
use Rattle.search.specs.declared.trail.Trail.{Trail}
use Rattle.search.specs.Trails.{saved_at, sets_at}
use Rattle.search.specs.Counts.{state, stepped, bettered}
use Rattle.search.specs.Frames.{frames, goes}
use Rattle.search.specs.Runs.{Asked, outcome_from, state_at}
use Rattle.search.specs.Saves.{undone, kept}
use Rattle.search.proofs.Visits.{resume_stopped, visit_stop, visit_full, visit_asked, asked_resumes, state_stepped, state_compared, after_answer}

module _ (g : Given) (f : Prune) (limit n : ℕ) (plan : List ℕ) where
  pub entered_stop : (os : List Decision) (sv su : List Saved) (ds es : List ℕ) (left : ℕ) (p dn : List ℕ) (c d : Tally) (v : ℤ)
      → c.steps ≡ limit → d ≡ c
      → goes g f limit n plan os sv ds (state n true d v) ≡ goes g f limit n plan os su es (visit g f limit left p dn (state n false c v))
  entered_stop os sv su ds es left p dn c d v l h =
      ap (λ x. goes g f limit n plan os sv ds (state n true x v)) h
      ∙ resume_stopped g f limit (frames n plan os sv ds) (state n true c v) refl
      ∙ sym (ap (goes g f limit n plan os su es) (visit_stop g f limit left p dn (state n false c v) refl l) ∙ resume_stopped g f limit (frames n plan os su es) (stop (state n false c v)) refl)

  pub entered_full : (os : List Decision) (m : ℕ) (sv su : List Saved) (ds es : List ℕ) (k : ℕ) (c d r : Tally) (z v y : ℤ)
      → c.steps < limit → k ≡ n → d ≡ stepped c → z ≡ total g (take n plan) → r ≡ cond (le_z z v) (bettered plan d) d → y ≡ cond (le_z z v) (z -ℤ pos 1) v
      → su ≡ kept m sv → es ≡ undone m sv ds
      → goes g f limit n plan os su es (state n false r y) ≡ goes g f limit n plan os (kept m sv) (undone m sv ds) (visit g f limit (n - k) (take k plan) (take n ds) (state n false c v))
  entered_full os m sv su ds es k c d r z v y l q h t w x a b =
      let none : n - k ≡ 0 = omega arith in
      let s : state n false d v ≡ step (state n false c v) = ap (λ (j : Tally). state n false j v) h ∙ state_stepped n false c v in
      let p : visit g f limit (n - k) (take k plan) (take n ds) (state n false c v) ≡ cond (le_z (total g (take n plan)) v) (better g (take n plan) (step (state n false c v))) (step (state n false c v)) =
      ap (λ j. visit g f limit j (take k plan) (take n ds) (state n false c v)) none ∙ ap (λ j. visit g f limit 0 (take j plan) (take n ds) (state n false c v)) q ∙ visit_full g f limit (take n plan) (take n ds) (state n false c v) refl l in
      let u : state n false r y ≡ cond (le_z (total g (take n plan)) v) (better g (take n plan) (step (state n false c v))) (step (state n false c v)) =
      ap (λ (j : Tally). state n false j y) w ∙ ap (state n false (cond (le_z z v) (bettered plan d) d)) x ∙ state_compared g n plan z v false d t ∙ ap (λ (j : State). cond (le_z (total g (take n plan)) v) (better g (take n plan) j) j) s in
      ap (λ j. goes g f limit n plan os j es (state n false r y)) a
      ∙ ap (λ j. goes g f limit n plan os (kept m sv) j (state n false r y)) b
      ∙ ap (goes g f limit n plan os (kept m sv) (undone m sv ds)) (u ∙ sym p)

  pub entered_asked : (os ps : List Decision) (m : ℕ) (x y : Trail) (k : ℕ) (c d : Tally) (z v : ℤ)
      → c.steps < limit → k < n → length os ≡ k → n ≤ length plan → d ≡ stepped c → z ≡ v
      → Asked (f g z (take n x.sheet.sets)) n m x os y ps
      → goes g f limit n plan ps (held y.saved) y.sheet.sets (state n false d v) ≡ goes g f limit n plan os (saved_at m x) (sets_at m x) (visit g f limit (n - k) (take k plan) (take n x.sheet.sets) (state n false c v))
  entered_asked os ps m x y k c d z v l under q short h e a =
      let more : n - k ≡ suc (n - suc k) = omega arith in
      let ds = take n x.sheet.sets in
      let t = state n false c v in
      let a' : Asked (f g v ds) n m x os y ps = subst (λ (j : ℤ). Asked (f g j ds) n m x os y ps) e a in
      let p : visit g f limit (n - k) (take k plan) ds t ≡ after_answer g f limit (n - suc k) (take (length os) plan) t (f g v ds) =
      ap (λ j. visit g f limit j (take k plan) ds t) more ∙ visit_asked g f limit (n - suc k) (take k plan) ds t refl l
      ∙ ap (λ j. after_answer g f limit (n - suc k) (take j plan) t (f g v ds)) (sym q) in
      ap (goes g f limit n plan ps (held y.saved) y.sheet.sets) (ap (λ (j : Tally). state n false j v) h ∙ state_stepped n false c v)
      ∙ asked_resumes g f limit n plan os ps m (n - suc k) x y t (f g v ds) (omega arith) (omega arith) a'
      ∙ ap (goes g f limit n plan os (saved_at m x) (sets_at m x)) (sym p)

-- a stopped search comes to where it stands
pub stopped_from : (w : Charge) (f : Prune) (z : ℤ) (x : Exploration) → state_at true z x ≡ outcome_from w f true z x
stopped_from w f z x = sym (resume_stopped (given x.trail.sheet w) f x.limit (frames x.trail.sheet.count x.plan (held x.decisions) (held x.trail.saved) x.trail.sheet.sets) (state_at true z x) refl)

pub compared_steps : (b : Bool) (p : List ℕ) (d r : Tally) → r ≡ cond b (bettered p d) d → (r.steps ≡ d.steps) × (r.betterings ≤ d.betterings + 1)
compared_steps true p d r e = (ap (λ (x : Tally). x.steps) e, let q : r.betterings ≡ d.betterings + 1 = ap (λ (x : Tally). x.betterings) e in omega arith)
compared_steps false p d r e = (ap (λ (x : Tally). x.steps) e, let q : r.betterings ≡ d.betterings = ap (λ (x : Tally). x.betterings) e in omega arith)
