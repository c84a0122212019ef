-- What is printed, one step at a time: a word of the register list, and a line of the script.
use Rattle.std.proofs.Common.{◌≡◌, ℕ, ◌+◌, ◌<◌, ◌≤◌, List, [], ◌∷◌, ◌++◌, length, get_or, take, Some, None, Option, sym, ap, ◌∙◌, arith}
use Rattle.std.specs.List.{flat_map}
use Rattle.std.proofs.lemmas.List.{append_assoc, flat_map_more, take_more, take_all}
use Rattle.std.proofs.lemmas.Bool.{cond-true, lt-ltb}
use Rattle.bank.specs.Banks.{word_at}
use Rattle.files.specs.declared.list.Make.{Make}
use Rattle.files.specs.Printing.{make_text, word_text, registers_text}

-- a word of the bank, there since its number is below how many there are
word_there : (ws : List ℕ) (k : ℕ) → k < length ws → word_at ws k ≡ Some (get_or ws k 0)
word_there ws k lt = cond-true _ _ _ (lt-ltb k (length ws) lt)

pub no_word : (ws : List ℕ) (k : ℕ) → k < length ws → None ≡ word_at ws k → ⊥
no_word ws k lt e = let p : ◌≡◌ {A = Option ℕ} None (Some (get_or ws k 0)) = e ∙ word_there ws k lt in let z : ◌≡◌ {A = ℕ} 0 1 = cc in omega arith

pub word_more : (front out more ws : List ℕ) (k w : ℕ) → k < length ws → Some w ≡ word_at ws k → out ≡ front ++ flat_map word_text (take k ws) → more ≡ out ++ word_text w → more ≡ front ++ flat_map word_text (take (k + 1) ws)
word_more front out more ws k w lt there so_far added =
    let e : w ≡ get_or ws k 0 = cc (word_there ws k lt) in
    added ∙ (ap (λ xs. xs ++ word_text w) so_far
    ∙ (flat_map_more word_text front (take k ws) w
    ∙ ap (λ xs. front ++ flat_map word_text xs) (ap (λ x. take k ws ++ (x ∷ [])) e ∙ sym (take_more ws k 0 lt))))

pub registers_all : (was front out ws : List ℕ) (make : Make) (k : ℕ) → length ws ≤ k → front ≡ was ++ make_text make → out ≡ front ++ flat_map word_text (take k ws) → out ≡ was ++ registers_text make ws
registers_all was front out ws make k le first so_far =
    so_far ∙ (ap (λ xs. front ++ flat_map word_text xs) (take_all k ws le) ∙ (ap (λ xs. xs ++ flat_map word_text ws) first ∙ append_assoc was (make_text make) (flat_map word_text ws)))
