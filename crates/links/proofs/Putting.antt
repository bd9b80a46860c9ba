-- Writes of steps one after another are one write.
use Rattle.std.proofs.Common.{◌≡◌, ℕ, suc, ◌+◌, ◌<◌, ◌≤◌, List, [], ◌∷◌, ◌++◌, length, take, drop, set, sym, ap, ◌∙◌, arith}
use Rattle.std.proofs.lemmas.List.{append_assoc, length-append, length-take-le, length-drop, take_at, drop_at, drop-drop, set_split, take-append-drop}
use Rattle.links.specs.declared.step.Step.{Step}
use Rattle.links.specs.Written.{put}

pub length_put : (table : List Step) (i : ℕ) (ss : List Step) → i + length ss ≤ length table → length (put table i ss) ≡ length table
unfolding put
length_put table i ss h =
    let a = length-append (take i table) (ss ++ drop (i + length ss) table) in
    let b = length-append ss (drop (i + length ss) table) in
    let c = length-take-le i table (omega arith) in
    let d = length-drop (i + length ss) table in
    omega arith

-- what stands before the end of a write
pub take_put : (table : List Step) (i : ℕ) (ss : List Step) → i ≤ length table → take (i + length ss) (put table i ss) ≡ take i table ++ ss
unfolding put
take_put table i ss h =
    let long : length (take i table ++ ss) ≡ i + length ss =
    (let a = length-append (take i table) ss in let c = length-take-le i table h in omega arith) in
    ap (take (i + length ss)) (sym (append_assoc (take i table) ss (drop (i + length ss) table)))
    ∙ take_at (take i table ++ ss) (drop (i + length ss) table) (i + length ss) long

-- what stands after the end of a write is as before
pub drop_put : (table : List Step) (i : ℕ) (ss : List Step) (n : ℕ) → i ≤ length table
    → drop ((i + length ss) + n) (put table i ss) ≡ drop ((i + length ss) + n) table
unfolding put
drop_put table i ss n h =
    let long : length (take i table ++ ss) ≡ i + length ss =
    (let a = length-append (take i table) ss in let c = length-take-le i table h in omega arith) in
    sym (drop-drop n (i + length ss) (put table i ss))
    ∙ (ap (drop n)
    (ap (drop (i + length ss)) (sym (append_assoc (take i table) ss (drop (i + length ss) table)))
    ∙ drop_at (take i table ++ ss) (drop (i + length ss) table) (i + length ss) long)
    ∙ drop-drop n (i + length ss) table)

pub put_put : (table : List Step) (i : ℕ) (ss ts : List Step) → i ≤ length table
    → put (put table i ss) (i + length ss) ts ≡ put table i (ss ++ ts)
unfolding put
put_put table i ss ts h =
    let front = take_put table i ss h in
    let rear = drop_put table i ss (length ts) h in
    let ends : (i + length ss) + length ts ≡ i + length (ss ++ ts) = (let a = length-append ss ts in omega arith) in
    (λ x. front x ++ (ts ++ rear x))
    ∙ (append_assoc (take i table) ss (ts ++ drop ((i + length ss) + length ts) table)
    ∙ ap (λ l. take i table ++ l)
    (sym (append_assoc ss ts (drop ((i + length ss) + length ts) table)) ∙ ap (λ m. (ss ++ ts) ++ drop m table) ends))

pub put_one : (table : List Step) (i : ℕ) (s : Step) → i < length table → set table i s ≡ put table i (s ∷ [])
unfolding put
put_one table i s h =
    set_split table i s h ∙ ap (λ m. take i table ++ (s ∷ drop m table)) (let z : suc i ≡ i + 1 = omega arith in z)

pub put_none : (table : List Step) (i : ℕ) → i ≤ length table → put table i [] ≡ table
unfolding put
put_none table i h =
    ap (λ m. take i table ++ drop m table) (let z : i + 0 ≡ i = omega arith in z) ∙ take-append-drop i table

-- steps, one more step and more steps, each from where the last write ended
pub put_around : (table : List Step) (i j l : ℕ) (s : Step) (ss ts : List Step) → i + length ss ≡ j → j < length table → l ≡ j + 1
    → put (set (put table i ss) j s) l ts ≡ put table i (ss ++ (s ∷ ts))
put_around table i j l s ss ts e h m =
    let fits : i + length ss ≤ length table = omega arith in
    let one : set (put table i ss) j s ≡ put table i (ss ++ (s ∷ [])) =
    put_one (put table i ss) j s (let a = length_put table i ss fits in let z : j < length (put table i ss) = omega arith in z)
    ∙ (ap (λ j. put (put table i ss) j (s ∷ [])) (sym e) ∙ put_put table i ss (s ∷ []) (omega arith)) in
    let place : l ≡ i + length (ss ++ (s ∷ [])) = (let a = length-append ss (s ∷ []) in omega arith) in
    (λ x. put (one x) (place x) ts)
    ∙ (put_put table i (ss ++ (s ∷ [])) ts (omega arith) ∙ ap (put table i) (append_assoc ss (s ∷ []) ts))
