-- Reading a board step by step: a clock that is looked up, a word that is taken, one more parent, one more line.
use Rattle.std.proofs.Common.{◌≡◌, ℕ, suc, ◌+◌, ◌-◌, ◌^◌, ◌≤◌, Bool, true, false, cond, not, ltb, List, [], ◌∷◌, ◌++◌, map, length, take, drop, Some, None, Ok, Err, Result, sym, refl, ap, ◌∙◌, arith}
use Rattle.std.proofs.lemmas.List.{length-map, length-take-le, take-append-drop, drop-map, drop_all, map-append}
use Rattle.std.proofs.lemmas.Bool.{cond-true, cond-false}
use Rattle.std.specs.List.{prefix_len, position}
use Rattle.std.specs.Str.{bytes_eq}
use Rattle.files.specs.declared.fault.FileFault.{FileFault}
use Rattle.files.specs.Faults.{bad_word}
use Rattle.piece.specs.declared.shapes.Piece.{Piece}
use Rattle.part.specs.declared.row.Marks.{Marks}
use Rattle.piece.specs.declared.style.MuxStyle.{MuxStyle}
use Rattle.piece.specs.Pieces.{Kind, mux, Clock, mux_value}
use Rattle.piece.specs.Shown.{clock_of}
use Rattle.words.specs.Cutting.{TextSpan, TextLine, first, others}
use Rattle.words.specs.Spelling.{spelled}
use Rattle.board.specs.declared.line.NumberWord.{NumberWord}
use Rattle.board.specs.Boards.{and_then, clock_named, name_word, number_word, marks_word, mux_style_word, parent_words, placed, clock, mux_line, line_clock, Board, next_line, board_from, list_after}

-- ---- a clock that is looked up by its name

prefix_len-map : {X Y : Type 0} (p : Y → Bool) (f : X → Y) (xs : List X) → prefix_len p (map f xs) ≡ prefix_len (λ x. p (f x)) xs
prefix_len-map p f [] = refl
prefix_len-map p f (x ∷ xs) = ap (λ n. cond (p (f x)) (1 + n) 0) (prefix_len-map p f xs)

-- a piece has the name of its clock
pub named_as : (ps : List Piece) (w : List ℕ) → position (λ p. bytes_eq (spelled p.name) w) ps ≡ clock_named (map clock_of ps) w
named_as ps w =
    let n = prefix_len-map (λ (c : Clock). not (bytes_eq c.name w)) clock_of ps in
    let l = length-map ps clock_of in
    rw (n, l) refl

-- ---- a clock line of good words, each the first of those that the word before it left

-- a clock's number is how many pieces stand before it
numbered : (ps : List Piece) (name : List ℕ) (kind : Kind) → ◌≡◌ {A = Result Clock FileFault} (Ok (record { number = length ps; name = name; kind = kind })) (Ok (clock (map clock_of ps) name kind))
numbered ps name kind = ap (λ n. Ok (record { number = n; name = name; kind = kind })) (sym (length-map ps clock_of))

-- what is left behind the sixth word
drop_one : (n : ℕ) (ws : List TextSpan) → drop (suc n) ws ≡ drop n (others ws)
drop_one n [] = sym (drop_all n [] (omega arith))
drop_one n (w ∷ ws) = refl

length-others : (ws : List TextSpan) → length (others ws) ≡ length ws - 1
length-others [] = refl
length-others (w ∷ ws) = omega arith

module _ (w₀ : List TextSpan) {w₁ w₂ w₃ w₄ w₅ w₆ : List TextSpan} (l₁ : w₁ ≡ others w₀) (l₂ : w₂ ≡ others w₁) (l₃ : w₃ ≡ others w₂) (l₄ : w₄ ≡ others w₃) (l₅ : w₅ ≡ others w₄) (l₆ : w₆ ≡ others w₅) where
  six_are : w₆ ≡ others (others (others (others (others (others w₀)))))
  six_are = cc

  drop_six : drop 6 w₀ ≡ w₆
  drop_six =
      let v₁ = others w₀ in
      let v₂ = others v₁ in
      let v₃ = others v₂ in
      let v₄ = others v₃ in
      drop_one 5 w₀ ∙ (drop_one 4 v₁ ∙ (drop_one 3 v₂ ∙ (drop_one 2 v₃ ∙ (drop_one 1 v₄ ∙ (drop_one 0 (others v₄) ∙ sym six_are)))))

  pub six_fewer : length w₆ ≡ length w₀ - 6
  six_fewer =
      let a = ap length l₁ ∙ length-others w₀ in
      let b = ap length l₂ ∙ length-others w₁ in
      let c = ap length l₃ ∙ length-others w₂ in
      let d = ap length l₄ ∙ length-others w₃ in
      let e = ap length l₅ ∙ length-others w₄ in
      let f = ap length l₆ ∙ length-others w₅ in omega arith

-- what follows from the parents of a mux whose other words are good
abbrev pub mux_end : List Piece → List ℕ → NumberWord → NumberWord → NumberWord → MuxStyle → Marks → Result (List ℕ) FileFault → Result Clock FileFault
mux_end ps name register shift width style marks r = and_then r (λ parents.
    cond (ltb (mux_value style (length parents - 1)) (2 ^ width.value))
    (Ok (clock (map clock_of ps) name (mux parents (placed register shift width.value) style marks)))
    (Err (bad_word width.place)))

module _ (ps : List Piece) (name : List ℕ) (register shift width : NumberWord) (style : MuxStyle) (marks : Marks) (parents : List ℕ) where
  pub mux_wide : false ≡ ltb (mux_value style (length parents - 1)) (2 ^ width.value) → mux_end ps name register shift width style marks (Ok parents) ≡ Err (bad_word width.place)
  mux_wide h = cond-false _ _ _ (sym h)

  pub mux_good : true ≡ ltb (mux_value style (length parents - 1)) (2 ^ width.value) → mux_end ps name register shift width style marks (Ok parents) ≡ Ok (record { number = length ps; name = name; kind = mux parents (placed register shift width.value) style marks })
  mux_good h = cond-true _ _ _ (sym h) ∙ sym (numbered ps name _)

module _ (ps : List Piece) (p : ℕ) (w₀ : List TextSpan) {w₁ : List TextSpan} {name : List ℕ} (a₀ : Ok name ≡ name_word (map clock_of ps) p (first w₀)) (l₁ : w₁ ≡ others w₀) where
  -- a mux, up to its parents
  module _ {w₂ w₃ w₄ w₅ w₆ : List TextSpan} {register shift width : NumberWord} {style : MuxStyle} {marks : Marks} (a₁ : Ok register ≡ number_word 0 63 p (first w₁)) (l₂ : w₂ ≡ others w₁)
      (a₂ : Ok shift ≡ number_word 0 31 p (first w₂)) (l₃ : w₃ ≡ others w₂) (a₃ : Ok width ≡ number_word 1 8 p (first w₃)) (l₄ : w₄ ≡ others w₃)
      (a₄ : Ok style ≡ mux_style_word p (first w₄)) (l₅ : w₅ ≡ others w₄) (a₅ : Ok marks ≡ marks_word p (first w₅)) (l₆ : w₆ ≡ others w₅) where
    pub mux_words : mux_line (map clock_of ps) p w₀ ≡ mux_end ps name register shift width style marks (parent_words (map clock_of ps) w₆)
    mux_words = rw (drop_six w₀ l₁ l₂ l₃ l₄ l₅ l₆, ← l₁, ← l₂, ← l₃, ← l₄, ← l₅, ← a₀, ← a₁, ← a₂, ← a₃, ← a₄, ← a₅)

-- ---- one more parent

-- parents in front of those that follow
abbrev pub behind : List ℕ → Result (List ℕ) FileFault → Result (List ℕ) FileFault
behind ps (Ok qs) = Ok (ps ++ qs)
behind ps (Err f) = Err f

-- ---- one more line

pub board_stop : (earlier : List Clock) (l : TextLine) (ls ks : List TextLine) → ls ≡ l ∷ ks → (f : FileFault) → Err f ≡ line_clock earlier l → board_from earlier ls ≡ record { clocks = earlier; fault = Some f }
board_stop earlier l ls ks more f e = ap (board_from earlier) more ∙ ap (λ r. next_line earlier r (λ c. board_from (earlier ++ (c ∷ [])) ks)) (sym e)

pub board_end : (earlier : List Clock) (ls : List TextLine) → ls ≡ [] → board_from earlier ls ≡ record { clocks = earlier; fault = None }
board_end earlier ls e = ap (board_from earlier) e

-- a list with n clocks of a board at its front, and behind them what it held before
module _ (list was : List Piece) (n : ℕ) (room : n ≤ length list) where
  pub front_count : length (map clock_of (take n list)) ≡ n
  front_count = length-map (take n list) clock_of ∙ length-take-le n list room

  pub list_after_lem : (b : Board) → drop n list ≡ drop n was → b.clocks ≡ map clock_of (take n list) → map clock_of list ≡ list_after b (map clock_of was)
  list_after_lem b same e =
      ap (map clock_of) (sym (take-append-drop n list)) ∙ (map-append clock_of (take n list) (drop n list)
      ∙ (ap (λ ps. map clock_of (take n list) ++ map clock_of ps) same
      ∙ (ap (λ cs. map clock_of (take n list) ++ cs) (sym (drop-map clock_of n was))
      ∙ (ap (λ k. map clock_of (take n list) ++ drop k (map clock_of was)) (sym front_count)
      ∙ ap (λ cs. cs ++ drop (length cs) (map clock_of was)) (sym e)))))
