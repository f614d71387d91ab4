-- How many bits a frame of rate set 2 has, and how frames are encoded.
use Rattle.symbol_path.proofs.Common.{◌≡◌, Bool, false, List, replicate, ap, ◌∙◌, binary, code_symbols, zeros}

-- the encoder starts in state zero
pub coded_from_zero : (bits codeword code : List Bool) → bits ≡ codeword →
    code ≡ code_symbols (binary 8 0) bits → code ≡ code_symbols (replicate 8 false) codeword
coded_from_zero bits codeword code is coded =
    coded
    ∙ ap (λ (start : List Bool). code_symbols start bits) zeros
    ∙ ap (code_symbols (replicate 8 false)) is
