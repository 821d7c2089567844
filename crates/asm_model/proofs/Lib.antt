mod Examples
pub mod LegalLaw
pub mod Appended
pub mod Choices
pub mod FirstSound
pub mod AddedSound
pub mod LinesSound
pub mod Rising
pub mod SecondSound
pub mod Formed
