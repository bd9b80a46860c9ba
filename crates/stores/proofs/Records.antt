-- Records of one width in a row of bytes. Assumes nothing.
use Rattle.std.proofs.Common.{◌≡◌, ℕ, suc, ◌+◌, ◌*◌, ◌/◌, ◌<◌, ◌≤◌, cond, ltb, Some, None, sym, ◌∙◌, mul-le-mul_right, suc-mul, arith}
use Rattle.std.proofs.lemmas.Nat.{div-add-mod'}
use Rattle.std.proofs.lemmas.Bool.{lt-ltb, cond-true}
use Rattle.stores.specs.Log.{Log, told, answer}

-- the record of a slot below len / w ends within len
pub record_fits : (slot len w : ℕ) → slot < len / w → slot * w + w ≤ len
record_fits slot len w h =
    let whole = div-add-mod' len w in
    let most : suc slot * w ≤ len / w * w = mul-le-mul_right w (omega arith) in
    let more = suc-mul slot w in
    omega arith

-- where a record begins is its slot times the width
pub begins : (at slot n w : ℕ) → slot < n → Some at ≡ cond (ltb slot n) (Some (slot * w)) None → at ≡ slot * w
begins at slot n w within e =
    let found : Some at ≡ Some (slot * w) = e ∙ cond-true _ _ _ (lt-ltb slot n within) in
    cc

-- a slot within the log answers what its mark and reading tell
pub answer_inside : {V : Type 0} (log : Log V) (i : ℕ) → i < log.slots → told (log.mark i) (log.reading i) ≡ answer log i
answer_inside log i within = sym (cond-true _ _ _ (lt-ltb i log.slots within))
