-- What the answered questions say of a certificate's numbers.
use Rattle.std.proofs.Common.{◌≡◌, ℕ, zero, suc, ◌-◌, ◌/◌, ◌%◌, ◌<◌, ◌≤◌, true, ◌&&◌, ◌||◌, eqb, ltb, leb, ◌⊎◌, List, [], ◌∷◌, ◌++◌, length, slice_index, get_or, Ok, ap, ◌∙◌, subst, inl, inr, ⊎_elim, lt_trans, arith, length-drop, length-take}
use Rattle.std.specs.List.{range_with_len, flat_map, AllByRecursion}
use Rattle.std.proofs.lemmas.List.FromFn.{length-range_with_len, get_or-range_with_len}
use Rattle.std.proofs.lemmas.Bool.Decides.{nat_tests}
use Rattle.std.proofs.lemmas.Bool.{leb-true, eqb-true, and_parts, or_cases, cases_lt}
use Rattle.certificate.specs.Asked.{Asked}
use Rattle.certificate.specs.Layout.{section_of, header_asked, layout_asked, offset, size, section_end}
use Rattle.certificate.specs.Rules.{allowed, two, four_or_zero, fields_asked, geometry_rules, resistance_rules, ratios_asked}
use Rattle.certificate.specs.Reading.{refusal, numbers_asked, strengths_asked}
use Rattle.certificate.specs.Strengths.{strength_at, factor_at, entry_asked, list_asked}
use Rattle.certificate.specs.Lookup.{list_section}
use Rattle.certificate.specs.Content.{edition_of, geometry_of, values_of, factors_of}
use Rattle.certificate.specs.Editions.{edition_byte, edition_named}
use Rattle.certificate.specs.Ranges.{Between, GeometryInRange, ValuesInRange, FactorsInRange, ListInRange}
use Rattle.certificate.specs.declared.layout.Section.{Section}
use Rattle.certificate.specs.declared.layout.Section.TheVariants.{Geometry, Resistance, Cracked, Uncracked}
use Rattle.certificate.specs.declared.lookup.Concrete.{Concrete}
use Rattle.certificate.specs.declared.lookup.Concrete.TheVariants as concrete
use Rattle.certificate.proofs.Firsts.{all_yes}

abbrev AllYes : Asked → Type 0
AllYes qs = AllByRecursion (λ q. q.0 ≡ true) qs

-- the questions of a list that begins with others
back : (xs ys : Asked) → AllYes (xs ++ ys) → AllYes xs × AllYes ys
back [] ys h = (tt, h)
back (x ∷ xs) ys (h, t) = let p = back xs ys t in ((h, p.0), p.1)

between : (least most n : ℕ) → (leb least n && leb n most) ≡ true → Between least most n
between least most n h = let q = and_parts (leb least n) (leb n most) h in record { from = leb-true least n q.0; to = leb-true n most q.1 }

allowed_between : (least most n : ℕ) → allowed (two 0 least most) n ≡ true → Between least most n
allowed_between least most n h = between least most n (grind (arith, nat_tests))

between_or_zero : (least most n : ℕ) → allowed (four_or_zero 0 least most) n ≡ true → Between least most n ⊎ (n ≡ 0)
between_or_zero least most n h =
    elim (or_cases (leb least n && leb n most) (true && eqb n 0) h) [ inl p ↦ inl (between least most n p) | inr p ↦ inr (eqb-true n 0 p) ]

-- a certificate that was read answered every question with yes
record Answered (bs : List ℕ) : Type 0 where
  header : AllYes (header_asked bs)
  layout : AllYes (layout_asked bs)
  numbers : AllYes (numbers_asked bs)
  lists : AllYes (strengths_asked bs)

answered : (bs : List ℕ) → refusal bs ≡ Ok tt → Answered bs
unfolding refusal
answered bs h =
    let a = back (header_asked bs) (layout_asked bs ++ (numbers_asked bs ++ strengths_asked bs)) (all_yes (header_asked bs ++ (layout_asked bs ++ (numbers_asked bs ++ strengths_asked bs))) h) in
    let b = back (layout_asked bs) (numbers_asked bs ++ strengths_asked bs) a.1 in
    let c = back (numbers_asked bs) (strengths_asked bs) b.1 in
    record { header = a.0; layout = b.0; numbers = c.0; lists = c.1 }

abbrev geometry_asked : List ℕ → Asked
geometry_asked bs = fields_asked (offset bs Geometry) (section_of bs Geometry) geometry_rules

abbrev resistance_asked : List ℕ → Asked
resistance_asked bs = fields_asked (offset bs Resistance) (section_of bs Resistance) resistance_rules

abbrev ratios : List ℕ → Asked
ratios bs = ratios_asked (offset bs Geometry) (section_of bs Geometry)

-- it names an edition
pub names_edition : (bs : List ℕ) → refusal bs ≡ Ok tt → edition_named (slice_index bs 0) ≡ Ok (edition_of bs)
names_edition bs h =
    let one : (eqb (slice_index bs 0) 1 || eqb (slice_index bs 0) 2) ≡ true = (answered bs h).header.1.0 in
    grind (arith, nat_tests)

-- and is rated by the edition that it names
pub edition_kept : (bs : List ℕ) → refusal bs ≡ Ok tt → edition_byte (edition_of bs) ≡ slice_index bs 0
edition_kept bs h =
    let one : (eqb (slice_index bs 0) 1 || eqb (slice_index bs 0) 2) ≡ true = (answered bs h).header.1.0 in
    grind (arith, nat_tests)

pub geometry_in_range : (bs : List ℕ) → refusal bs ≡ Ok tt → GeometryInRange (geometry_of (section_of bs Geometry))
unfolding geometry_rules
geometry_in_range bs h =
    let n = back (geometry_asked bs) (resistance_asked bs ++ ratios bs) (answered bs h).numbers in
    let (a, (b, (c, (d, (e, (f, (g, (i, (j, (k, (l, z))))))))))) = n.0 in
    let r = (back (resistance_asked bs) (ratios bs) n.1).1 in
    record {
      depth = allowed_between _ _ _ a;
      width = allowed_between _ _ _ b;
      height = allowed_between _ _ _ c;
      cone_cracked = allowed_between _ _ _ d;
      cone_uncracked = allowed_between _ _ _ e;
      edge_cracked = allowed_between _ _ _ f;
      edge_uncracked = allowed_between _ _ _ g;
      pryout = allowed_between _ _ _ i;
      lip_tension = allowed_between _ _ _ j;
      lip_shear = allowed_between _ _ _ k;
      inertia = allowed_between _ _ _ l;
      flat = leb-true _ _ r.0;
      narrow = leb-true _ _ r.1.0;
    }

pub values_in_range : (bs : List ℕ) → refusal bs ≡ Ok tt → ValuesInRange (values_of (section_of bs Resistance))
unfolding resistance_rules
values_in_range bs h =
    let n = back (geometry_asked bs) (resistance_asked bs ++ ratios bs) (answered bs h).numbers in
    let (a, (b, (c, (d, (e, (f, (g, (i, (j, (k, z)))))))))) = (back (resistance_asked bs) (ratios bs) n.1).0 in
    record {
      anchor = allowed_between _ _ _ a;
      connection = allowed_between _ _ _ b;
      lip = allowed_between _ _ _ c;
      bolt = allowed_between _ _ _ d;
      flexure = allowed_between _ _ _ e;
      pullout = allowed_between _ _ _ f;
      bolt_shear = allowed_between _ _ _ g;
      lip_shear = allowed_between _ _ _ i;
      anchor_shear = between_or_zero _ _ _ j;
      connection_shear = between_or_zero _ _ _ k;
    }

pub factors_in_range : (bs : List ℕ) → refusal bs ≡ Ok tt → FactorsInRange (factors_of (section_of bs Resistance))
unfolding resistance_rules
factors_in_range bs h =
    let n = back (geometry_asked bs) (resistance_asked bs ++ ratios bs) (answered bs h).numbers in
    let (p, (q, (r, (s, (t, (u, (v, (w, (x, (y, rest)))))))))) = (back (resistance_asked bs) (ratios bs) n.1).0 in
    let (a, (b, (c, (d, (e, (f, (g, (i, (j, (k, z)))))))))) = rest in
    record {
      anchor = allowed_between _ _ _ a;
      connection = allowed_between _ _ _ b;
      lip = allowed_between _ _ _ c;
      bolt = allowed_between _ _ _ d;
      flexure = allowed_between _ _ _ e;
      bolt_shear = allowed_between _ _ _ f;
      lip_shear = allowed_between _ _ _ g;
      anchor_shear = allowed_between _ _ _ i;
      connection_shear = allowed_between _ _ _ j;
      concrete = allowed_between _ _ _ k;
    }

-- the questions of one item among those of all
each_joined : {X : Type 0} (f : X → Asked) (xs : List X) (k : ℕ) (d : X) → k < length xs → AllYes (flat_map f xs) → AllYes (f (get_or xs k d))
each_joined f [] k d h all = absurd (omega arith)
each_joined f (x ∷ xs) zero d h all = (back (f x) (flat_map f xs) all).0
each_joined f (x ∷ xs) (suc k) d h all = each_joined f xs k d (omega arith) (back (f x) (flat_map f xs) all).1

-- what the questions of a list say of its entries
module _ (place : ℕ) (bs : List ℕ) (all : AllYes (list_asked place bs)) where
  asked_at : (k : ℕ) → k < length bs / 4 → AllYes (entry_asked place bs k)
  asked_at k h =
      let n : ℕ = length bs / 4 in
      let e : get_or (range_with_len 0 n) k 0 ≡ k = omega (arith, get_or-range_with_len 0 n k 0 h) in
      subst (λ (j : ℕ). AllYes (entry_asked place bs j)) e (each_joined (entry_asked place bs) (range_with_len 0 n) k 0 (omega (arith, length-range_with_len 0 n)) all)

  above : (k : ℕ) → suc k < length bs / 4 → strength_at bs k < strength_at bs (suc k)
  above k h =
      let t : (eqb (suc k) 0 || ltb (strength_at bs (suc k - 1)) (strength_at bs (suc k))) ≡ true = (asked_at (suc k) h).1.0 in
      let e : suc k - 1 ≡ k = omega arith in
      let u : strength_at bs (suc k - 1) < strength_at bs (suc k) = grind (arith, nat_tests) in
      subst (λ (j : ℕ). strength_at bs j < strength_at bs (suc k)) e u

  rise : (j k : ℕ) → j < k → k < length bs / 4 → strength_at bs j < strength_at bs k
  rise j zero h l = absurd (omega arith)
  rise j (suc k) h l =
      ⊎_elim
      (λ (g : j < k). let a : strength_at bs j < strength_at bs k = rise j k g (omega arith) in lt_trans a (above k l))
      (λ (g : k ≤ j). let e : k ≡ j = omega arith in subst (λ (i : ℕ). strength_at bs i < strength_at bs (suc k)) e (above k l))
      (cases_lt j k)

  list_lawful : length bs % 4 ≡ 0 → 4 ≤ length bs → length bs ≤ 256 → ListInRange bs
  list_lawful fours least most = record {
    whole = omega arith;
    some = omega arith;
    few = omega arith;
    strengths = λ k h. between 12 75 (strength_at bs k) (asked_at k h).0;
    rising = rise;
    factors = λ k h. between 20 400 (factor_at bs k) (asked_at k h).1.1.0;
  }

-- a section that ends inside the file is as long as its pair says
length_section : (bs : List ℕ) (s : Section) → section_end bs s ≤ length bs → length (section_of bs s) ≡ size bs s
length_section bs s h = simp (length-take, length-drop) (omega arith)

list_at : (bs : List ℕ) (s : Section) → section_end bs s ≤ length bs → (leb 4 (size bs s) && leb (size bs s) 256 && eqb (size bs s % 4) 0) ≡ true → AllYes (list_asked (offset bs s) (section_of bs s)) → ListInRange (section_of bs s)
list_at bs s within right all =
    let e = length_section bs s within in
    let p = and_parts (leb 4 (size bs s) && leb (size bs s) 256) (eqb (size bs s % 4) 0) right in
    let q = and_parts (leb 4 (size bs s)) (leb (size bs s) 256) p.0 in
    list_lawful (offset bs s) (section_of bs s) all (ap (λ (n : ℕ). n % 4) e ∙ eqb-true (size bs s % 4) 0 p.1) (omega (arith, leb-true 4 (size bs s) q.0)) (omega (arith, leb-true (size bs s) 256 q.1))

pub list_in_range : (bs : List ℕ) (concrete : Concrete) → refusal bs ≡ Ok tt → ListInRange (section_of bs (list_section concrete))
list_in_range bs concrete.Cracked h =
    let (a, (b, (c, (d, (e, (f, (g, (within, (right, rest))))))))) = (answered bs h).layout in
    list_at bs Cracked (leb-true _ _ within) right (back (list_asked (offset bs Cracked) (section_of bs Cracked)) (list_asked (offset bs Uncracked) (section_of bs Uncracked)) (answered bs h).lists).0
list_in_range bs concrete.Uncracked h =
    let (a, (b, (c, (d, (e, (f, (g, (i, (j, (k, (within, (right, rest)))))))))))) = (answered bs h).layout in
    list_at bs Uncracked (leb-true _ _ within) right (back (list_asked (offset bs Cracked) (section_of bs Cracked)) (list_asked (offset bs Uncracked) (section_of bs Uncracked)) (answered bs h).lists).1
