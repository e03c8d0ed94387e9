-- The parts of a leaf's bytes: the heading, the rows, the findings, and the end.
use Rattle.std.proofs.Common.{◌≡◌, ℕ, ◌+◌, ◌-◌, List, [], ◌∷◌, ◌++◌, map, length, take, drop, sym, refl, ap, ◌∙◌, ap₂}
use Rattle.std.proofs.Common.{arith}
use Rattle.std.proofs.lemmas.Grind.{flat_map-append}
use Rattle.std.proofs.lemmas.List.{append_assoc, append-nil, length-append}
use Rattle.std.proofs.Math.Seq.{drop-append_seam, take-append_seam}
use Rattle.rows.specs.Answers.{gives}
use Rattle.leaves.specs.declared.entries.Heading.{Heading}
use Rattle.leaves.specs.declared.entries.Entry.TheVariants.{Heading as heading, Row as row, Finding as finding}
use Rattle.leaves.specs.declared.entries.Entry.TheVariants.{End as end}
use Rattle.leaves.specs.Entries.{entry_bytes, row_place, finding_place, leaf_length}
use Rattle.leaves.specs.Contents.{Contents, bytes_of}
use Rattle.reading.specs.declared.phases.Phase.{Phase}
use Rattle.reading.specs.declared.phases.Phase.TheVariants.{Closed}
use Rattle.reading.specs.Held.{HoldContents}
use Rattle.reading.specs.Whole.{Fits}
use Rattle.reading.proofs.Ranks.{rows_length, findings_length}
use Rattle.reading.proofs.Walks.{HasEnded}

-- the bytes of contents, part by part
split_entries : (c : Contents) (n : ℕ)
    → bytes_of (map row c.rows ++ (map finding c.findings ++ end n ∷ [])) ≡ bytes_of (map row c.rows)
    ++ (bytes_of (map finding c.findings) ++ entry_bytes (end n))
split_entries c n =
    flat_map-append entry_bytes (map row c.rows) (map finding c.findings ++ end n ∷ [])
    ∙ ap (λ xs. bytes_of (map row c.rows) ++ xs)
    (flat_map-append entry_bytes (map finding c.findings) (end n ∷ [])
    ∙ ap (λ xs. bytes_of (map finding c.findings) ++ xs) (append-nil (entry_bytes (end n))))

-- what stands between others, from place i to place j
middle : (a b c : List ℕ) (i j : ℕ) → length a ≡ i → i + length b ≡ j → take (j - i) (drop i (a ++ (b ++ c))) ≡ b
middle a b c i j first second =
    let size : j - i ≡ length b = omega arith in
    ap₂ (λ n m. take n (drop m (a ++ (b ++ c)))) size (sym first) ∙ ap (take (length b)) (drop-append_seam a (b ++ c))
    ∙ take-append_seam b c

-- the parts of bytes that fit contents of n rows
pub record InParts (bytes : List ℕ) (c : Contents) (n : ℕ) : Type 0 where
  pub size : length bytes ≡ leaf_length n
  pub rows : take (row_place n - row_place 0) (drop (row_place 0) bytes) ≡ bytes_of (map row c.rows)
  pub findings : take (finding_place n n - row_place n) (drop (row_place n) bytes) ≡ bytes_of (map finding c.findings)
  pub split : (last : List ℕ)
      × (bytes ≡ entry_bytes (heading c.heading)
      ++ (bytes_of (map row c.rows) ++ (bytes_of (map finding c.findings) ++ last)))

pub in_parts : (bytes : List ℕ) (c : Contents) (n : ℕ) → Fits bytes (gives c) → n ≡ length c.rows → InParts bytes c n
in_parts bytes c n fits rows =
    let head = entry_bytes (heading c.heading) in
    let rs = bytes_of (map row c.rows) in
    let fs = bytes_of (map finding c.findings) in
    let last = entry_bytes (end (1 + length c.rows + length c.findings)) in
    let parts : bytes ≡ head ++ (rs ++ (fs ++ last)) =
    fits.1 ∙ ap (λ xs. head ++ xs) (split_entries c (1 + length c.rows + length c.findings)) in
    let long = rows_length c.rows in
    let even = fits.0.even in
    let deep = findings_length c.findings in
    record {
      size = ap length parts ∙ omega (arith, length-append rs (fs ++ last), length-append fs last);
      rows = ap (λ xs. take (row_place n - row_place 0) (drop (row_place 0) xs)) parts
          ∙ middle head rs (fs ++ last) (row_place 0) (row_place n) refl (omega arith);
      findings = ap (λ xs. take (finding_place n n - row_place n) (drop (row_place n) xs))
          (parts ∙ sym (append_assoc head rs (fs ++ last)))
          ∙ middle (head ++ rs) fs last (row_place n) (finding_place n n) (omega (arith, length-append head rs))
          (omega arith);
      split = (last, parts);
    }

-- a leaf that was read to its end, of which the closed phase tells the heading and the number of rows
pub record IsRead (bytes : List ℕ) (h : Heading) (n : ℕ) : Type 0 where
  pub contents : Contents
  pub fits : Fits bytes (gives contents)
  pub head : h ≡ contents.heading
  pub parts : InParts bytes contents n

pub is_read : (bytes : List ℕ) (h : Heading) (n : ℕ) (p : Phase) → Closed h n ≡ p → HasEnded bytes p → IsRead bytes h n
is_read bytes h n p closed ended =
    let c = ended.contents in
    let same : ◌≡◌ {A = Phase} (Closed h n) (Closed c.heading (length c.rows)) = closed ∙ ended.closed in
    let head : h ≡ c.heading = cc in
    let total : n ≡ length c.rows = cc in
    record { contents = c; fits = ended.fits; head = head; parts = in_parts bytes c n ended.fits total }

module _ {bytes : List ℕ} {h : Heading} {n : ℕ} (is : IsRead bytes h n) where
  -- from place to place its parts hold the contents
  pub hold_contents : {i j k : ℕ} → i ≡ finding_place 0 0 → j ≡ finding_place n 0 → k ≡ finding_place n n
      → HoldContents h (take (j - i) (drop i bytes)) (take (k - j) (drop j bytes)) is.contents
  hold_contents {j = j} rows_from findings_from findings_to =
      let middle : j ≡ row_place n = omega (arith, findings_from) in
      record {
        head = is.head;
        rows = ap₂ (λ i j. take (j - i) (drop i bytes)) rows_from middle ∙ is.parts.rows;
        findings = ap₂ (λ j k. take (k - j) (drop j bytes)) middle findings_to ∙ is.parts.findings;
        lawful = is.fits.0;
      }

  -- the parts that hold the contents stand in the bytes
  pub stand_in : {rs fs : List ℕ} → HoldContents h rs fs is.contents
      → (last : List ℕ) × (bytes ≡ entry_bytes (heading h) ++ (rs ++ (fs ++ last)))
  stand_in parts =
      let last = is.parts.split.0 in
      (last, is.parts.split.1 ∙ rw (sym parts.head, sym parts.rows, sym parts.findings) refl)
