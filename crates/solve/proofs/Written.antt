-- Lines that are written one by one. Assumes nothing.
use Rattle.std.proofs.Common.{◌≡◌, ℕ, zero, suc, ◌+◌, ◌<◌, List, [], ◌∷◌, ◌++◌, length, get_or, drop, set, sym, refl, ap, ◌∙◌, append_assoc, add-one, arith}
use Rattle.std.proofs.lemmas.List.{drop_more, set_at}
use Rattle.planning.specs.Plans.{Given}
use Rattle.solve.specs.declared.line.Line.{Line}
use Rattle.solve.specs.Lines.{line_at, lines_from, written}

pub length_lines : (g : Given) (rows p : List ℕ) (k n : ℕ) → length (lines_from g rows p k n) ≡ n
length_lines g rows p k zero = refl
length_lines g rows p k (suc n) = ap suc (length_lines g rows p (suc k) n)

one_more : (g : Given) (rows p : List ℕ) (k n m : ℕ) → k + n ≡ m → lines_from g rows p k (suc n) ≡ lines_from g rows p k n ++ (line_at g rows p m ∷ [])
one_more g rows p k zero m e = let q : k ≡ m = omega arith in ap (λ j. line_at g rows p j ∷ []) q
one_more g rows p k (suc n) m e = ap (λ ls. line_at g rows p k ∷ ls) (one_more g rows p (suc k) n m (omega arith))

-- the line of the next case, written after those before it
pub line_more : (g : Given) (rows p : List ℕ) (k : ℕ) (list now_list : List Line) (v : Line) → k < length list → now_list ≡ written g rows p k list → v ≡ line_at g rows p k
    → set now_list k v ≡ written g rows p (k + 1) list
line_more g rows p k list now_list v l e q =
    let before = lines_from g rows p 0 k in
    ap (λ ls. set ls k v) e
    ∙ ap (λ ls. set (before ++ ls) k v) (drop_more list k v l)
    ∙ set_at before (get_or list k v) (drop (k + 1) list) v k (length_lines g rows p 0 k)
    ∙ ap (λ x. before ++ (x ∷ drop (k + 1) list)) q
    ∙ sym (append_assoc before (line_at g rows p k ∷ []) (drop (k + 1) list))
    ∙ ap (λ ls. ls ++ drop (k + 1) list) (sym (one_more g rows p 0 k k (omega arith)))
    ∙ ap (λ n. lines_from g rows p 0 n ++ drop (k + 1) list) (sym (add-one k))
