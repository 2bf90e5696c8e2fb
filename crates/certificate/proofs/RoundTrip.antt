-- What is written reads back as what was handed in.
use Rattle.std.proofs.Common.{◌≡◌, ℕ, ◌+◌, ◌*◌, ◌/◌, ◌%◌, ◌<◌, ◌≤◌, List, [], ◌∷◌, ◌++◌, length, get_or, take, drop, sym, refl, ap, ◌∙◌, arith}
use Rattle.std.specs.List.{AllByRecursion}
use Rattle.std.proofs.lemmas.Nat.{shr-shr, div_below}
use Rattle.std.proofs.lemmas.List.Elements.{recursion_from_All}
use Rattle.std.proofs.lemmas.List.{take_at, take_all, drop_at, drop-drop}
use Rattle.certificate.specs.Layout.{offset, section_of}
use Rattle.certificate.specs.Content.{Content, content_of, geometry_of, values_of, factors_of, entry_at, entries}
use Rattle.certificate.specs.Writing.{written, entry_bytes, list_bytes, geometry_shorts, values_list, factors_list, Fits16, Fits32, EntryFits, Fitting}
use Rattle.certificate.specs.declared.fields.Geometry.{Geometry}
use Rattle.certificate.specs.declared.fields.CharacteristicValues.{CharacteristicValues}
use Rattle.certificate.specs.declared.fields.PartialFactors.{PartialFactors}
use Rattle.certificate.specs.declared.fields.StrengthFactor.{StrengthFactor}
use Rattle.certificate.specs.declared.layout.Section.TheVariants as section
use Rattle.certificate.proofs.EntryLists.{entries_first}

short : (n : ℕ) → Fits16 n → n % 256 + n / 256 % 256 * 256 ≡ n
short n h = omega arith

digits : (n p q r : ℕ) → n / 256 ≡ p → p / 256 ≡ q → q / 256 ≡ r → r < 256 → n % 256 + p % 256 * 256 + q % 256 * 65536 + r % 256 * 16777216 ≡ n
digits n p q r e f g h =
    let a : p * 256 + n % 256 ≡ n = omega arith in
    let b : q * 256 + p % 256 ≡ p = omega arith in
    let d : r * 256 + q % 256 ≡ q = omega arith in
    let k : r % 256 ≡ r = omega arith in
    omega arith

long : (n : ℕ) → Fits32 n → n % 256 + n / 256 % 256 * 256 + n / 65536 % 256 * 65536 + n / 16777216 % 256 * 16777216 ≡ n
long n h =
    digits n (n / 256) (n / 65536) (n / 16777216) refl (shr-shr n 8 8) (shr-shr n 16 8) (div_below n 16777216 256 (omega arith) (omega arith))

geometry_back : (c : Content) → Fitting c → geometry_of (section_of (written c) section.Geometry) ≡ c.geometry
unfolding written
geometry_back c fit =
    let (a, (b, (d, (e, (f, (g, (h, (i, (j, (k, z)))))))))) = recursion_from_All Fits16 (geometry_shorts c.geometry) fit.shorts in
    simp (short _ a, short _ b, short _ d, short _ e, short _ f, short _ g, short _ h, short _ i, short _ j, short _ k, long _ fit.inertia) refl

values_back : (c : Content) → Fitting c → values_of (section_of (written c) section.Resistance) ≡ c.values
unfolding written
values_back c fit =
    let (a, (b, (d, (e, (f, (g, (h, (i, (j, (k, z)))))))))) = recursion_from_All Fits32 (values_list c.values) fit.values in
    simp (long _ a, long _ b, long _ d, long _ e, long _ f, long _ g, long _ h, long _ i, long _ j, long _ k) refl

factors_back : (c : Content) → Fitting c → factors_of (section_of (written c) section.Resistance) ≡ c.factors
unfolding written
factors_back c fit =
    let (a, (b, (d, (e, (f, (g, (h, (i, (j, (k, z)))))))))) = recursion_from_All Fits16 (factors_list c.factors) fit.factors in
    simp (short _ a, short _ b, short _ d, short _ e, short _ f, short _ g, short _ h, short _ i, short _ j, short _ k) refl

pub length-list : (xs : List StrengthFactor) → length (list_bytes xs) ≡ 4 * length xs
length-list [] = refl
length-list (x ∷ xs) = let e = length-list xs in omega arith

entries_back : (xs : List StrengthFactor) → AllByRecursion EntryFits xs → entries (list_bytes xs) ≡ xs
entries_back [] all = refl
entries_back (x ∷ xs) (fit, all) =
    let a = short x.strength fit.0 in
    let b = short x.factor fit.1 in
    let e : entry_at (entry_bytes x) 0 ≡ x = simp (a, b) refl in
    entries_first (entry_bytes x) (list_bytes xs) refl ∙ ap (λ (y : StrengthFactor). y ∷ entries (list_bytes xs)) e ∙ ap (λ (ys : List StrengthFactor). x ∷ ys) (entries_back xs all)

first_byte : (c : Content) → get_or (written c) 0 0 ≡ c.edition
unfolding written
first_byte c = refl

same_content : {e e' : ℕ} {g g' : Geometry} {v v' : CharacteristicValues} {f f' : PartialFactors} {k k' u u' : List StrengthFactor} → e ≡ e' → g ≡ g' → v ≡ v' → f ≡ f' → k ≡ k' → u ≡ u' → ◌≡◌ {A = Content} (record { edition = e; geometry = g; values = v; factors = f; cracked = k; uncracked = u }) (record { edition = e'; geometry = g'; values = v'; factors = f'; cracked = k'; uncracked = u' })
same_content a b d h i j = cc

-- the lists of a certificate that is not too long
module _ (c : Content) (few : length c.cracked ≤ 1000) (few' : length c.uncracked ≤ 1000) where
  cracked_part : section_of (written c) section.Cracked ≡ list_bytes c.cracked
  unfolding written
  cracked_part =
      let a : ℕ = length c.cracked in
      let e = short (4 * a) (omega arith) in
      let lists : List ℕ = list_bytes c.cracked ++ list_bytes c.uncracked in
      ap (λ (n : ℕ). take n lists) e ∙ take_at (list_bytes c.cracked) (list_bytes c.uncracked) (4 * a) (length-list c.cracked)

  uncracked_part : section_of (written c) section.Uncracked ≡ list_bytes c.uncracked
  unfolding written
  uncracked_part =
      let a : ℕ = length c.cracked in
      let b : ℕ = length c.uncracked in
      let e = short (102 + 4 * a) (omega arith) in
      let f = short (4 * b) (omega arith) in
      let rest : drop (102 + 4 * a) (written c) ≡ list_bytes c.uncracked =
      sym (drop-drop (4 * a) 102 (written c)) ∙ drop_at (list_bytes c.cracked) (list_bytes c.uncracked) (4 * a) (length-list c.cracked) in
      ap (λ (n : ℕ). take n (drop (offset (written c) section.Uncracked) (written c))) f
      ∙ ap (λ (n : ℕ). take (4 * b) (drop n (written c))) e
      ∙ ap (take (4 * b)) rest
      ∙ take_all (4 * b) (list_bytes c.uncracked) (omega (arith, length-list c.uncracked))

  pub content_back : Fitting c → content_of (written c) ≡ c
  unfolding content_of
  content_back fit =
      let bs : List ℕ = written c in
      let k = ap entries cracked_part ∙ entries_back c.cracked (recursion_from_All EntryFits c.cracked fit.cracked) in
      let u = ap entries uncracked_part ∙ entries_back c.uncracked (recursion_from_All EntryFits c.uncracked fit.uncracked) in
      same_content (first_byte c) (geometry_back c fit) (values_back c fit) (factors_back c fit) k u
