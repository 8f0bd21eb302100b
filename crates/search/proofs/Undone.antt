-- Laws of the saved sets. Assumes nothing.
use Rattle.std.proofs.Common.{◌≡◌, ℕ, zero, suc, ◌+◌, ◌^◌, ◌<◌, ◌≤◌, true, false, cond, ltb, List, [], ◌∷◌, length, get_or, set, sym, refl, ap, ◌∙◌, subst, ⊎_elim, arith}
use lib.Count.{ones}
use Rattle.std.proofs.lemmas.List.{set-set, set-get_or, get_or-set_same, get_or-set_other}
use Rattle.std.proofs.lemmas.Bool.{cases_eq, cond-true, cond-false, le-ltb, lt-ltb}
use Rattle.stack.specs.declared.Stack.{Stack}
use Rattle.stack.specs.Entries.{held, room}
use Rattle.stack.proofs.Laws.{length_entries}
use Rattle.slot_set.specs.Sets.{has}
use Rattle.planning.specs.declared.working_sheet.WorkingSheet.{WorkingSheet}
use Rattle.planning.specs.Invariants.{Open}
use Rattle.planning.specs.Pruners.{Part}
use Rattle.search.specs.declared.saving.Saved.{Saved}
use Rattle.search.specs.declared.trail.Trail.{Trail}
use Rattle.search.proofs.Words.{part_fewer}
use Rattle.search.specs.Saves.{undone, kept, weight, Level, Through}
use Rattle.search.specs.Trails.{Alike, Restored, RestoredFrom, Since, saved_at, sets_at}

-- one entry put back, and none
pub undone_pop : (m : ℕ) (e : Saved) (es : List Saved) (ds : List ℕ) → m ≤ length es → undone m (e ∷ es) ds ≡ undone m es (set ds e.row e.slots)
undone_pop m e es ds l = cond-false (ltb (length es) m) ds (undone m es (set ds e.row e.slots)) (le-ltb (length es) m l)

pub kept_pop : (m : ℕ) (e : Saved) (es : List Saved) → m ≤ length es → kept m (e ∷ es) ≡ kept m es
kept_pop m e es l = cond-false (ltb (length es) m) (e ∷ es) (kept m es) (le-ltb (length es) m l)

pub undone_low : (m : ℕ) (es : List Saved) (ds : List ℕ) → length es ≤ m → undone m es ds ≡ ds
undone_low m [] ds l = refl
undone_low m (e ∷ es) ds l = cond-true (ltb (length es) m) ds (undone m es (set ds e.row e.slots)) (lt-ltb (length es) m (omega arith))

pub kept_low : (m : ℕ) (es : List Saved) → length es ≤ m → kept m es ≡ es
kept_low m [] l = refl
kept_low m (e ∷ es) l = cond-true (ltb (length es) m) (e ∷ es) (kept m es) (lt-ltb (length es) m (omega arith))

pub through_top : (k : ℕ) (es : List Saved) (ds : List ℕ) → Through k es ds → Level k (length es) ds
through_top k [] ds h = h
through_top k (e ∷ es) ds h = h.0

pub open_set : (k : ℕ) (ds : List ℕ) (i v : ℕ) → Open k ds → Part v (get_or ds i 0) → i < length ds → Open k (set ds i v)
open_set k ds i v h p l j s q = ⊎_elim
    (λ e. h i s (p s (ap (λ x. has x s) (sym (get_or-set_same ds i v 0 l)) ∙ ap (λ x. has (get_or (set ds i v) x 0) s) (sym e) ∙ q)))
    (λ n. h j s (ap (λ x. has x s) (sym (get_or-set_other ds i j v 0 n)) ∙ q))
    (cases_eq j i)

weight_set : (ds : List ℕ) (i v : ℕ) → i < length ds → weight (set ds i v) + ones (get_or ds i 0) ≡ weight ds + ones v
weight_set [] i v l = absurd (omega arith)
weight_set (d ∷ ds) zero v l = omega arith
weight_set (d ∷ ds) (suc i) v l = omega (arith, weight_set ds i v (omega arith))

pub weight_at : (ds : List ℕ) (i : ℕ) → i < length ds → ones (get_or ds i 0) ≤ weight ds
weight_at [] i l = absurd (omega arith)
weight_at (d ∷ ds) zero l = omega arith
weight_at (d ∷ ds) (suc i) l = omega (arith, weight_at ds i (omega arith))

set_back : (ds : List ℕ) (i v : ℕ) → set (set ds i v) i (get_or ds i 0) ≡ ds
set_back ds i v = set-set ds i v (get_or ds i 0) ∙ set-get_or ds i 0

abbrev entry : ℕ → ℕ → Saved
entry i d = record { row = i; slots = d }

pub through_push : (k : ℕ) (es : List Saved) (ds : List ℕ) (i v : ℕ) → Through k es ds → i < length ds → Part v (get_or ds i 0) → ones v < ones (get_or ds i 0) → Through k (entry i (get_or ds i 0) ∷ es) (set ds i v)
through_push k es ds i v h l p f =
    let s = through_top k es ds h in
    let w = weight_set ds i v l in
    (record { fits = omega arith; usable = open_set k ds i v s.usable p l }, subst (Through k es) (sym (set_back ds i v)) h)

undone_push : (m : ℕ) (es : List Saved) (ds : List ℕ) (i v : ℕ) → m ≤ length es → undone m (entry i (get_or ds i 0) ∷ es) (set ds i v) ≡ undone m es ds
undone_push m es ds i v l = undone_pop m (entry i (get_or ds i 0)) es (set ds i v) l ∙ ap (undone m es) (set_back ds i v)

pub held_length : {X : Type 0} (s : Stack X) → s.height ≤ room s → length (held s) ≡ s.height
held_length s l = length_entries s.places.now s.height l

-- a change gives a row a part of its set that is another
fewer : (a b : ℕ) → a < 2 ^ 64 → b < 2 ^ 64 → Part a b → (b ≡ a → ⊥) → ones a < ones b
fewer a b x y p n = ⊎_elim (λ e. absurd (n (sym e))) (λ l. l) (part_fewer a b x y p)

module _ (t : Trail) (i v : ℕ) (x : v < 2 ^ 64) (y : get_or t.sheet.sets i 0 < 2 ^ 64) (l : i < 16) (p : Part v (get_or t.sheet.sets i 0)) (n : get_or t.sheet.sets i 0 ≡ v → ⊥) where
  pub change_fits : t.saved.height < room t.saved
  change_fits =
      let less = fewer v (get_or t.sheet.sets i 0) x y p n in
      let len = held_length t.saved t.saved.low in
      let top = through_top t.sheet.opened (held t.saved) t.sheet.sets t.through in
      let at = weight_at t.sheet.sets i (omega arith) in
      omega arith

  pub change_through : (s : Stack Saved) → held s ≡ entry i (get_or t.sheet.sets i 0) ∷ held t.saved → Through t.sheet.opened (held s) (set t.sheet.sets i v)
  change_through s e =
      subst (λ es. Through t.sheet.opened es (set t.sheet.sets i v)) (sym e)
      (through_push t.sheet.opened (held t.saved) t.sheet.sets i v t.through (omega arith) p (fewer v (get_or t.sheet.sets i 0) x y p n))

-- the latest entry put back
pub restored : (k : ℕ) (es : List Saved) (ds : List ℕ) → Through k es ds → (e : Saved) (fs : List Saved) → es ≡ e ∷ fs → Through k fs (set ds e.row e.slots)
restored k es ds h e fs q = (subst (λ us. Through k us ds) q h).1

module _ (m : ℕ) (a b : Trail) where
  back : (es : List Saved) → held a.saved ≡ es → RestoredFrom es a b → m < length es → (sets_at m b ≡ sets_at m a) × (saved_at m b ≡ saved_at m a)
  back [] q h l = absurd (omega arith)
  back (e ∷ es) q (h, k) l = (
    ap (λ us. undone m us b.sheet.sets) h ∙ ap (undone m es) k ∙ sym (undone_pop m e es a.sheet.sets (omega arith)) ∙ ap (λ us. undone m us a.sheet.sets) (sym q),
    ap (kept m) h ∙ sym (kept_pop m e es (omega arith)) ∙ ap (kept m) (sym q),
  )

  pub sets_restored : Restored a b → m < a.saved.height → sets_at m b ≡ sets_at m a
  sets_restored h l = let len = held_length a.saved a.saved.low in (back (held a.saved) refl h (omega arith)).0

  pub saved_restored : Restored a b → m < a.saved.height → saved_at m b ≡ saved_at m a
  saved_restored h l = let len = held_length a.saved a.saved.low in (back (held a.saved) refl h (omega arith)).1

-- nothing to put back
pub sets_low : (m : ℕ) (a : Trail) → a.saved.height ≤ m → sets_at m a ≡ a.sheet.sets
sets_low m a l = let len = held_length a.saved a.saved.low in undone_low m (held a.saved) a.sheet.sets (omega arith)

pub saved_low : (m : ℕ) (a : Trail) → a.saved.height ≤ m → saved_at m a ≡ held a.saved
saved_low m a l = let len = held_length a.saved a.saved.low in kept_low m (held a.saved) (omega arith)

pub alike_then : (a b c : WorkingSheet) → Alike a b → Alike b c → Alike a c
alike_then a b c h k = record { needs = k.needs ∙ h.needs; prices = k.prices ∙ h.prices; opened = k.opened ∙ h.opened; count = k.count ∙ h.count }

pub since_same : (a : Trail) → Since a a
since_same a = record { higher = omega arith; sets = λ m l. refl; saved = λ m l. refl }

pub since_then : (a b c : Trail) → Since a b → Since b c → Since a c
since_then a b c h k = record {
  higher = omega arith;
  sets = λ m l. k.sets m (omega arith) ∙ h.sets m l;
  saved = λ m l. k.saved m (omega arith) ∙ h.saved m l;
}

pub since_push : (a b : Trail) (i v : ℕ) → b.saved.height ≡ a.saved.height + 1 → held b.saved ≡ entry i (get_or a.sheet.sets i 0) ∷ held a.saved → b.sheet.sets ≡ set a.sheet.sets i v → Since a b
since_push a b i v high e f =
    let len = held_length a.saved a.saved.low in
    record {
      higher = omega arith;
      sets = λ m l. ap (λ es. undone m es b.sheet.sets) e ∙ ap (undone m (entry i (get_or a.sheet.sets i 0) ∷ held a.saved)) f ∙ undone_push m (held a.saved) a.sheet.sets i v (omega arith);
      saved = λ m l. ap (kept m) e ∙ kept_pop m (entry i (get_or a.sheet.sets i 0)) (held a.saved) (omega arith);
    }

pub through_kept : (b m : ℕ) (es : List Saved) (ds : List ℕ) → Through b es ds → Through b (kept m es) (undone m es ds)
through_kept b m [] ds h = h
through_kept b m (e ∷ es) ds h =
    elim (ltb (length es) m) as (λ v. Through b (cond v (e ∷ es) (kept m es)) (cond v ds (undone m es (set ds e.row e.slots)))) [
      | true ↦ h
      | false ↦ through_kept b m es (set ds e.row e.slots) h.1
    ]
