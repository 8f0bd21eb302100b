-- One visit, and the frames that it leaves. Assumes nothing.
use Rattle.std.proofs.Common.{◌≡◌, ℕ, zero, suc, ◌-◌, ◌^◌, ◌<◌, ◌≤◌, Bool, true, false, cond, eqb, List, [], ◌∷◌, ◌++◌, length, get_or, take, set, ℤ, pos, ◌-ℤ◌, Some, None, Option, sym, refl, ap, ◌∙◌, add-one, arith}
use lib.Signed.{le_z}
use Rattle.std.specs.Option.{option_map}
use Rattle.std.proofs.lemmas.List.{take-set-le, length-take-le}
use Rattle.std.proofs.lemmas.Bool.{cond-true, cond-false, eq-eqb, ne_eqb}
use Rattle.stack.specs.Entries.{held}
use Rattle.planning.specs.Plans.{Given, total}
use Rattle.planning.specs.Pruners.{Prune}
use Rattle.search_rules.specs.Search.{State, visit, try_each, branches, answered, stop, step, better}
use Rattle.search.specs.declared.saving.Saved.{Saved}
use Rattle.search.specs.declared.deciding.Decision.{Decision}
use Rattle.search.specs.declared.tally.Tally.{Tally}
use Rattle.search.specs.declared.trail.Trail.{Trail}
use Rattle.search.specs.Trails.{saved_at, sets_at}
use Rattle.search.specs.Counts.{state, stepped, bettered}
use Rattle.search.specs.Frames.{Frame, resume, untried, frames}
use Rattle.search.specs.Runs.{Asked}
use Rattle.search.specs.Saves.{undone, kept}
use Rattle.search.proofs.Untried.{untried_all}

-- a stopped search does nothing more
visit_stopped : (g : Given) (f : Prune) (limit left : ℕ) (p ds : List ℕ) (t : State) → t.stopped ≡ true → visit g f limit left p ds t ≡ t
visit_stopped g f limit zero p ds t e = cond-true t.stopped t _ e
visit_stopped g f limit (suc left) p ds t e = cond-true t.stopped t _ e

each_stopped : (v : ℕ → State → State) (ss : List ℕ) (t : State) → ((s : ℕ) → v s t ≡ t) → try_each v ss t ≡ t
each_stopped v [] t h = refl
each_stopped v (s ∷ ss) t h = ap (try_each v ss) (h s) ∙ each_stopped v ss t h

pub resume_stopped : (g : Given) (f : Prune) (limit : ℕ) (rs : List Frame) (t : State) → t.stopped ≡ true → resume g f limit rs t ≡ t
resume_stopped g f limit [] t e = refl
resume_stopped g f limit (r ∷ rs) t e =
    ap (resume g f limit rs) (each_stopped (λ s. visit g f limit r.left (r.plan ++ (s ∷ [])) (set r.sets (length r.plan) (2 ^ s))) r.untried t
    (λ s. visit_stopped g f limit r.left (r.plan ++ (s ∷ [])) (set r.sets (length r.plan) (2 ^ s)) t e))
    ∙ resume_stopped g f limit rs t e

-- one visit
pub visit_stop : (g : Given) (f : Prune) (limit left : ℕ) (p ds : List ℕ) (t : State) → t.stopped ≡ false → t.steps ≡ limit → visit g f limit left p ds t ≡ stop t
visit_stop g f limit zero p ds t e l = cond-false t.stopped t _ e ∙ cond-true (eqb t.steps limit) (stop t) _ (eq-eqb t.steps limit l)
visit_stop g f limit (suc left) p ds t e l = cond-false t.stopped t _ e ∙ cond-true (eqb t.steps limit) (stop t) _ (eq-eqb t.steps limit l)

pub visit_full : (g : Given) (f : Prune) (limit : ℕ) (p ds : List ℕ) (t : State) → t.stopped ≡ false → t.steps < limit
    → visit g f limit zero p ds t ≡ cond (le_z (total g p) t.ceiling) (better g p (step t)) (step t)
visit_full g f limit p ds t e l = cond-false t.stopped t _ e ∙ cond-false (eqb t.steps limit) (stop t) _ (ne_eqb t.steps limit (λ q. omega arith))

-- a part-plan after its pruner's answer
abbrev pub after_answer : Given → Prune → ℕ → ℕ → List ℕ → State → Option (List ℕ) → State
after_answer g f limit left p t o = answered (branches (λ s. visit g f limit left (p ++ (s ∷ []))) p) o (step t)

pub visit_asked : (g : Given) (f : Prune) (limit left : ℕ) (p ds : List ℕ) (t : State) → t.stopped ≡ false → t.steps < limit
    → visit g f limit (suc left) p ds t ≡ after_answer g f limit left p t (f g t.ceiling ds)
visit_asked g f limit left p ds t e l = cond-false t.stopped t _ e ∙ cond-false (eqb t.steps limit) (stop t) _ (ne_eqb t.steps limit (λ q. omega arith))

-- the frame of a part-plan that was asked
pub resume_live : (g : Given) (f : Prune) (limit n : ℕ) (plan : List ℕ) (os : List Decision) (m left : ℕ) (sv su : List Saved) (ds es : List ℕ) (t : State)
    → length os ≤ length plan → n - length os ≡ suc left → undone m su es ≡ undone m sv ds → kept m su ≡ kept m sv
    → resume g f limit (frames n plan (record { mark = m; next = 0 } ∷ os) su es) (step t)
    ≡ resume g f limit (frames n plan os (kept m sv) (undone m sv ds)) (after_answer g f limit left (take (length os) plan) t (Some (take n es)))
resume_live g f limit n plan os m left sv su ds es t short e u k =
    let l : n - suc (length os) ≡ left = omega arith in
    let q : length (take (length os) plan) ≡ length os = length-take-le (length os) plan short in
    ap (λ j. resume g f limit (frames n plan os (kept m su) (undone m su es)) (try_each (λ s. visit g f limit j (take (length os) plan ++ (s ∷ [])) (set (take n es) (length (take (length os) plan)) (2 ^ s))) (untried (take (length os) plan) (get_or (take n es) (length os) 0) 0) (step t))) l
    ∙ ap (λ j. resume g f limit (frames n plan os (kept m su) (undone m su es)) (try_each (λ s. visit g f limit left (take (length os) plan ++ (s ∷ [])) (set (take n es) (length (take (length os) plan)) (2 ^ s))) (untried (take (length os) plan) (get_or (take n es) j 0) 0) (step t))) (sym q)
    ∙ ap (λ xs. resume g f limit (frames n plan os (kept m su) (undone m su es)) (try_each (λ s. visit g f limit left (take (length os) plan ++ (s ∷ [])) (set (take n es) (length (take (length os) plan)) (2 ^ s))) xs (step t))) (untried_all (take (length os) plan) (get_or (take n es) (length (take (length os) plan)) 0))
    ∙ ap (λ x. resume g f limit (frames n plan os x (undone m su es)) (after_answer g f limit left (take (length os) plan) t (Some (take n es)))) k
    ∙ ap (λ x. resume g f limit (frames n plan os (kept m sv) x) (after_answer g f limit left (take (length os) plan) t (Some (take n es)))) u

-- after a question, in both cases
pub asked_resumes : (g : Given) (f : Prune) (limit n : ℕ) (plan : List ℕ) (os ps : List Decision) (m left : ℕ) (x y : Trail) (t : State) (o : Option (List ℕ))
    → length os ≤ length plan → n - length os ≡ suc left → Asked o n m x os y ps
    → resume g f limit (frames n plan ps (held y.saved) y.sheet.sets) (step t)
    ≡ resume g f limit (frames n plan os (saved_at m x) (sets_at m x)) (after_answer g f limit left (take (length os) plan) t o)
asked_resumes g f limit n plan os ps m left x y t None short e a =
    ap (λ z. resume g f limit (frames n plan z (held y.saved) y.sheet.sets) (step t)) a.0
    ∙ ap (λ z. resume g f limit (frames n plan os z y.sheet.sets) (step t)) a.2
    ∙ ap (λ z. resume g f limit (frames n plan os (saved_at m x) z) (step t)) a.1
asked_resumes g f limit n plan os ps m left x y t (Some new) short e a =
    ap (λ z. resume g f limit (frames n plan z (held y.saved) y.sheet.sets) (step t)) a.0
    ∙ resume_live g f limit n plan os m left (held x.saved) (held y.saved) x.sheet.sets y.sheet.sets t short e a.2 a.3
    ∙ ap (λ z. resume g f limit (frames n plan os (saved_at m x) (sets_at m x)) (after_answer g f limit left (take (length os) plan) t (Some z))) a.1

-- the code's counts
pub state_stepped : (n : ℕ) (b : Bool) (c : Tally) (v : ℤ) → state n b (stepped c) v ≡ step (state n b c v)
state_stepped n b c v =
    ap (λ (k : ℕ). record { ceiling = v; steps = k; betterings = c.betterings; best = option_map (take n) c.best; stopped = b }) (add-one c.steps)

state_bettered : (g : Given) (n : ℕ) (plan : List ℕ) (b : Bool) (c : Tally) (v : ℤ) → state n b (bettered plan c) (total g (take n plan) -ℤ pos 1) ≡ better g (take n plan) (state n b c v)
state_bettered g n plan b c v =
    ap (λ (k : ℕ). record { ceiling = total g (take n plan) -ℤ pos 1; steps = c.steps; betterings = k; best = Some (take n plan); stopped = b }) (add-one c.betterings)

pub state_compared : (g : Given) (n : ℕ) (plan : List ℕ) (z v : ℤ) (b : Bool) (c : Tally) → z ≡ total g (take n plan)
    → state n b (cond (le_z z v) (bettered plan c) c) (cond (le_z z v) (z -ℤ pos 1) v) ≡ cond (le_z (total g (take n plan)) v) (better g (take n plan) (state n b c v)) (state n b c v)
state_compared g n plan z v b c e =
    ap (λ (x : ℤ). state n b (cond (le_z x v) (bettered plan c) c) (cond (le_z x v) (x -ℤ pos 1) v)) e
    ∙ elim (le_z (total g (take n plan)) v) as (λ t. state n b (cond t (bettered plan c) c) (cond t (total g (take n plan) -ℤ pos 1) v) ≡ cond t (better g (take n plan) (state n b c v)) (state n b c v)) [
      | true ↦ state_bettered g n plan b c v
      | false ↦ refl
    ]

-- the frames look only at the plan below them
pub frames_plan : (n : ℕ) (plan : List ℕ) (k v : ℕ) (os : List Decision) (sv : List Saved) (ds : List ℕ) → length os ≤ suc k → frames n (set plan k v) os sv ds ≡ frames n plan os sv ds
frames_plan n plan k v [] sv ds l = refl
frames_plan n plan k v (d ∷ os) sv ds l =
    let e = take-set-le (length os) plan k v (omega arith) in
    ap (λ (p : List ℕ). record { plan = p; sets = take n ds; untried = untried p (get_or (take n ds) (length os) 0) d.next; left = n - suc (length os) } ∷ frames n (set plan k v) os (kept d.mark sv) (undone d.mark sv ds)) e
    ∙ ap (λ fs. record { plan = take (length os) plan; sets = take n ds; untried = untried (take (length os) plan) (get_or (take n ds) (length os) 0) d.next; left = n - suc (length os) } ∷ fs) (frames_plan n plan k v os (kept d.mark sv) (undone d.mark sv ds) (omega arith))
