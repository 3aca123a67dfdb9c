-- The layers keep the rules of a loss.
use Rattle.std.specs.Prelude.{◌≡◌, ℕ, suc, ◌+◌, ◌-◌, ◌*◌, ◌^◌, ◌≤◌, Bool, true, false, cond, nat_lt, refl}
use Rattle.std.proofs.Common.{sym, ◌∙◌, mul-le-mul_left, mul_assoc, add-mul, arith, inl, inr}
use Rattle.std.proofs.lemmas.Bool.Decides.{leb_tells}
use Rattle.loss.specs.Table.{Table, Sound}
use Rattle.layers.specs.Layers.{capped, weighted, paired}

-- a ceiling that is not too heavy is the one that is meant
layer_is : (b : Bool) (c : ℕ) → cond b (2 ^ 40 + 1) c ≤ 2 ^ 40 → (b ≡ false) × (cond b (2 ^ 40 + 1) c ≡ c)
layer_is true c h = absurd (omega arith)
layer_is false c h = (refl, refl)

not_over : (m n : ℕ) → nat_lt m n ≡ false → n ≤ m
not_over m n e =
    elim (leb_tells (suc m) n) [
      | inl t ↦ (let z : true ≡ false = sym t.0 ∙ e in let o : ◌≡◌ {A = ℕ} 0 1 = cc in absurd (omega (arith, o)))
      | inr t ↦ omega (arith, t.1)
    ]

layer_light : (b : Bool) (c : ℕ) → c ≤ 2 ^ 40 + 1 → cond b (2 ^ 40 + 1) c ≤ 2 ^ 40 + 1
layer_light true c h = omega arith
layer_light false c h = h

capped_light : (c : ℕ) → capped c ≤ 2 ^ 40 + 1
capped_light c =
    elim (leb_tells (suc (2 ^ 40)) c) [
      | inl t ↦ (let e = t.0 in simp e (omega arith))
      | inr t ↦ (let e = t.0 in simp e (omega (arith, t.1)))
    ]

weighted_is : (w : ℕ) (l : Table) → (weighted w l).ceiling ≤ 2 ^ 40 → (l.ceiling ≤ 2 ^ 40) × ((weighted w l).ceiling ≡ w * l.ceiling)
weighted_is w l h =
    let one = layer_is (nat_lt (2 ^ 40) l.ceiling) (capped (w * l.ceiling)) h in
    let two = layer_is (nat_lt (2 ^ 40) (w * l.ceiling)) (w * l.ceiling) (rw one.1 at h) in
    (not_over (2 ^ 40) l.ceiling one.0, one.1 ∙ two.1)

paired_is : (p s : Table) → (paired p s).ceiling ≤ 2 ^ 40 → (p.ceiling ≤ 2 ^ 40) × (s.ceiling ≤ 2 ^ 40) × ((paired p s).ceiling ≡ p.ceiling + s.ceiling)
paired_is p s h =
    let one = layer_is (nat_lt (2 ^ 40) p.ceiling) _ h in
    let h2 = rw one.1 at h in
    let two = layer_is (nat_lt (2 ^ 40) s.ceiling) _ h2 in
    let h3 = rw two.1 at h2 in
    let three = layer_is (nat_lt (2 ^ 40) (p.ceiling + s.ceiling)) _ h3 in
    (not_over (2 ^ 40) p.ceiling one.0, not_over (2 ^ 40) s.ceiling two.0, one.1 ∙ two.1 ∙ three.1)

pub weighted_sound : (w : ℕ) (l : Table) → Sound l → Sound (weighted w l)
weighted_sound w l h = record {
  short = h.short;
  light = layer_light (nat_lt (2 ^ 40) l.ceiling) _ (capped_light (w * l.ceiling));
  under = λ a b low ab bl.
      let e = weighted_is w l low in
      let le : w * l.loss a b ≤ w * (l.ceiling * (b - a)) = mul-le-mul_left w (h.under a b e.0 ab bl) in
      rw e.1 (rw mul_assoc le);
}

pub paired_sound : (p s : Table) → Sound p → Sound s → Sound (paired p s)
paired_sound p s hp hs = record {
  short = omega (arith, hp.short);
  light = layer_light (nat_lt (2 ^ 40) p.ceiling) _ (layer_light (nat_lt (2 ^ 40) s.ceiling) _ (capped_light (p.ceiling + s.ceiling)));
  under = λ a b low ab bl.
      let e = paired_is p s low in
      let t = hp.under a b e.0 ab (omega arith) in
      let u = hs.under a b e.1 ab (omega arith) in
      rw e.2 (rw add-mul (omega arith));
}
